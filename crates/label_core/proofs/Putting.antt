-- A new entry keeps the table sound.
use Rattle.std.proofs.Common.{◌≡◌, ◌≢◌, ◌⊎◌, ℕ, ◌<◌, Bool, true, false, cond, Option, Some, None, List, [], ◌∷◌, length, map, refl, sym, ap, ◌∙◌, subst, inl, inr, ⊎_elim, arith}
use Rattle.std.proofs.lemmas.List.{length-set, length-map}
use Rattle.std.proofs.lemmas.Option.{slice_get-map}
use Rattle.std.specs.Prelude.{slice_get, ◌&&◌, option_map}
use native.Mathlib.Decide.{ℕ_discrete}
use mathlib.Core.Logic.{dite}
use Rattle.label_space.specs.Rules.{Rules, Fits, Dominates, Extends}
use Rattle.label_space.specs.Laws.{IsLawful}
use Rattle.label_core.specs.declared.table.Place.{Place}
use Rattle.label_core.specs.declared.table.Origin.{Origin}
use Rattle.label_core.specs.declared.table.Entry.{Entry}
use Rattle.label_core.specs.Tables.{Cells, place, entries_of, StandsAt, IsKept}
use Rattle.label_core.specs.Walks.{LeadsBack}
use Rattle.label_core.specs.Points.{LinksOver, IsSound}
use Rattle.label_core.specs.Puts.{is_none, gone_by, beside, put_into, put, MayPut}
use Rattle.label_core.proofs.Lookup.{at_end, at_front, front_or_end, same_place, entries_set_here, entries_set_else}
use Rattle.label_core.specs.Points.{Stays}
use Rattle.label_core.proofs.Stays.{leads_back_still, root_still, parent_still}

some_mapped : {A : Type 0} (f : A → A) (o : Option A) (b : A) → option_map f o ≡ Some b → (a : A) × (o ≡ Some a) × (f a ≡ b)
some_mapped f None b e = absurd (cc)
some_mapped f (Some a) b e = (a, refl, cc)

module _ {L : Type 0} (r : Rules L) where
  -- what becomes of an entry beside a new one
  pub data Beside (l : L) (q : Place) (e : Entry L) : Entry L → Type 0 where
    stays : (IsKept e → r.dominates l e.label ≡ false) → Beside l q e e
    goes : IsKept e → Dominates r l e.label → Beside l q e (gone_by q e)

  pub beside_cases : (l : L) (q : Place) (e : Entry L) → Beside l q e (beside r l q e)
  beside_cases l q e = cases (is_none e.gone) refl (r.dominates l e.label) refl
    where
      kept_is : (o : Option Place) → is_none o ≡ true → o ≡ None
      kept_is None h = refl
      kept_is (Some x) h = absurd (cc)

      gone_is : (o : Option Place) → is_none o ≡ false → o ≡ None → ⊥
      gone_is None h k = (cc)
      gone_is (Some x) h k = (cc)

      cases : (a : Bool) → is_none e.gone ≡ a → (b : Bool) → r.dominates l e.label ≡ b → Beside l q e (cond (a && b) (gone_by q e) e)
      cases true h true d = goes (kept_is e.gone h) d
      cases true h false d = stays (λ _. d)
      cases false h b d = stays (λ k. absurd (gone_is e.gone h k))

  module _ (t : Cells L) (c : ℕ) (new : Entry L) where
    -- the new entry's place
    abbrev pub at : Place
    at = place c (length (entries_of t c))

    -- what the entry d of t at p has become
    pub data Became (p : Place) (d : Entry L) : Entry L → Type 0 where
      same : (p.cell ≡ c → IsKept d → r.dominates new.label d.label ≡ false) → Became p d d
      went : p.cell ≡ c → IsKept d → Dominates r new.label d.label → Became p d (gone_by at d)

    came : (p : Place) (d e : Entry L) → p.cell ≡ c → Beside new.label at d e → Became p d e
    came p d e here (stays h) = same (λ _. h)
    came p d e here (goes k x) = went here k x

    -- an entry of the new table is the new one, or one of the old table
    abbrev pub Came : Place → Entry L → Type 0
    Came p e = ((p ≡ at) × (e ≡ new)) ⊎ ((d : Entry L) × StandsAt t p d × Became p d e)

    module _ (room : c < length t) where
      entries_here : (p : Place) → p.cell ≡ c → entries_of (put r t c new) p.cell ≡ put_into r (entries_of t c) c new
      entries_here p is = ap (λ k. entries_of (put r t c new) k) is ∙ entries_set_here t c (put_into r (entries_of t c) c new) room

      entries_else : (p : Place) → p.cell ≢ c → entries_of (put r t c new) p.cell ≡ entries_of t p.cell
      entries_else p apart = entries_set_else t c p.cell (put_into r (entries_of t c) c new) apart

      pub put_back : (p : Place) (e : Entry L) → StandsAt (put r t c new) p e → Came p e
      put_back p e s = dite (ℕ_discrete p.cell c) here else
        where
          here : p.cell ≡ c → Came p e
          here is =
              let s' = subst (λ es. slice_get es p.index ≡ Some e) (entries_here p is) s in
              ⊎_elim
              (λ old.
              let was = some_mapped (beside r new.label at) (slice_get (entries_of t c) p.index) e (sym (slice_get-map (beside r new.label at) (entries_of t c) p.index) ∙ old) in
              inr (
                was.0,
                subst (λ k. slice_get (entries_of t k) p.index ≡ Some was.0) (sym is) was.1,
                came p was.0 e is (subst (λ x. Beside new.label at was.0 x) was.2 (beside_cases new.label at was.0)),
              ))
              (λ (last : (p.index ≡ length (map (beside r new.label at) (entries_of t c))) × (new ≡ e)).
              inl (same_place p at is (last.0 ∙ length-map (entries_of t c) (beside r new.label at)), sym last.1))
              (front_or_end (map (beside r new.label at) (entries_of t c)) new e p.index s')

          else : p.cell ≢ c → Came p e
          else apart = inr (e, subst (λ es. slice_get es p.index ≡ Some e) (entries_else p apart) s, same (λ is. absurd (apart is)))

      pub new_stands : StandsAt (put r t c new) at new
      new_stands = subst (λ es. slice_get es (length (entries_of t c)) ≡ Some new) (sym (entries_here at refl))
          (subst (λ n. slice_get (put_into r (entries_of t c) c new) n ≡ Some new) (length-map (entries_of t c) (beside r new.label at))
          (at_end (map (beside r new.label at) (entries_of t c)) new))

      pub put_forth : (p : Place) (d : Entry L) → StandsAt t p d → (e : Entry L) × StandsAt (put r t c new) p e × Became p d e
      put_forth p d s = dite (ℕ_discrete p.cell c) here else
        where
          here : p.cell ≡ c → (e : Entry L) × StandsAt (put r t c new) p e × Became p d e
          here is =
              let s' = subst (λ k. slice_get (entries_of t k) p.index ≡ Some d) is s in (
                beside r new.label at d,
                subst (λ es. slice_get es p.index ≡ Some (beside r new.label at d)) (sym (entries_here p is))
                    (at_front (map (beside r new.label at) (entries_of t c)) new (beside r new.label at d) p.index
                    (slice_get-map (beside r new.label at) (entries_of t c) p.index ∙ ap (option_map (beside r new.label at)) s')),
                came p d (beside r new.label at d) is (beside_cases new.label at d),
              )

          else : p.cell ≢ c → (e : Entry L) × StandsAt (put r t c new) p e × Became p d e
          else apart = (d, subst (λ es. slice_get es p.index ≡ Some d) (sym (entries_else p apart)) s, same (λ is. absurd (apart is)))

    pub label_stays : (p : Place) (d e : Entry L) → Became p d e → e.label ≡ d.label
    label_stays p d e (same h) = refl
    label_stays p d e (went h k x) = refl

    pub origin_stays : (p : Place) (d e : Entry L) → Became p d e → e.origin ≡ d.origin
    origin_stays p d e (same h) = refl
    origin_stays p d e (went h k x) = refl

    pub turn_stays : (p : Place) (d e : Entry L) → Became p d e → e.turn ≡ d.turn
    turn_stays p d e (same h) = refl
    turn_stays p d e (went h k x) = refl

    -- a kept entry is as it was, and the new label does not dominate it
    pub still_kept : (p : Place) (d e : Entry L) → Became p d e → IsKept e
        → (d ≡ e) × (p.cell ≡ c → r.dominates new.label d.label ≡ false)
    still_kept p d e (same h) k = (refl, λ is. h is k)
    still_kept p d e (went h k x) k' = absurd (cc)

  module _ (law : IsLawful r) (t : Cells L) (sound : IsSound r t) (new : Entry L) (o : Origin) (may : MayPut r t new o) where
    abbrev c : ℕ
    c = r.cell new.label

    pub cell_is_there : c < length t
    cell_is_there = let h = law.cell_within new.label may.fits in let n = sound.cell_each in omega arith

    abbrev after : Cells L
    after = put r t c new

    abbrev spot : Place
    spot = at t c new

    forth : (p : Place) (d : Entry L) → StandsAt t p d → (e : Entry L) × StandsAt after p e × Became t c new p d e
    forth = put_forth t c new cell_is_there

    back : (p : Place) (e : Entry L) → StandsAt after p e → Came t c new p e
    back = put_back t c new cell_is_there

    stands : StandsAt after spot new
    stands = new_stands t c new cell_is_there

    pub put_stays : Stays t after
    put_stays p d s = let f = forth p d s in (f.0, f.1, label_stays t c new p d f.0 f.2, origin_stays t c new p d f.0 f.2)

    links_still : (path : List Place) (p : Place) → LinksOver t p path → (longer : List Place) × LinksOver after p longer
    links_still [] p (d, s, k) = ends (forth p d s)
      where
        ends : (e : Entry L) × StandsAt after p e × Became t c new p d e → (longer : List Place) × LinksOver after p longer
        ends (e, s', same h) = ([], (d, s', k))
        ends (e, s', went here k' x) = (spot ∷ [], (gone_by spot d, s', refl, (new, stands, may.kept)))
    links_still (q ∷ path) p (d, s, g, rest) = goes_on (links_still path q rest) (forth p d s)
      where
        goes_on : (longer : List Place) × LinksOver after q longer → (e : Entry L) × StandsAt after p e × Became t c new p d e → (longer : List Place) × LinksOver after p longer
        goes_on m (e, s', same h) = (q ∷ m.0, (d, s', g, m.1))
        goes_on m (e, s', went here k x) = absurd (cc)

    apart_still : (p q : Place) (e d : Entry L) → StandsAt after p e → StandsAt after q d → p.cell ≡ q.cell → p ≢ q → IsKept e → IsKept d → r.dominates e.label d.label ≡ false
    apart_still p q e d sp sq one two ke kd = both (back p e sp) (back q d sq)
      where
        both : Came t c new p e → Came t c new q d → r.dominates e.label d.label ≡ false
        both (inl a) (inl b) = absurd (two (a.0 ∙ sym b.0))
        both (inl a) (inr (x, s, was)) =
            let k = still_kept t c new q x d was kd in
            subst (λ (y : Entry L). r.dominates y.label d.label ≡ false) (sym a.1)
            (subst (λ (y : Entry L). r.dominates new.label y.label ≡ false) k.0 (k.1 (sym one ∙ ap (λ (z : Place). z.cell) a.0)))
        both (inr (x, s, was)) (inl b) =
            let k = still_kept t c new p x e was ke in
            let here : p.cell ≡ c = one ∙ ap (λ (z : Place). z.cell) b.0 in
            subst (λ (y : Entry L). r.dominates e.label y.label ≡ false) (sym b.1)
            (subst (λ (y : Entry L). r.dominates y.label new.label ≡ false) k.0
            (may.uncovered p.index x (subst (λ n. slice_get (entries_of t n) p.index ≡ Some x) here s) (subst (λ (y : Entry L). IsKept y) (sym k.0) ke)))
        both (inr (x, s, was)) (inr (y, s', was')) =
            let k = still_kept t c new p x e was ke in
            let k' = still_kept t c new q y d was' kd in
            subst (λ (z : Entry L). r.dominates z.label d.label ≡ false) k.0
            (subst (λ (z : Entry L). r.dominates x.label z.label ≡ false) k'.0
            (sound.apart p q x y s s' one two (subst (λ (z : Entry L). IsKept z) (sym k.0) ke) (subst (λ (z : Entry L). IsKept z) (sym k'.0) kd)))

    home_still : (p : Place) (e : Entry L) → StandsAt after p e → Fits r e.label × (r.cell e.label ≡ p.cell)
    home_still p e s = one (back p e s)
      where
        one : Came t c new p e → Fits r e.label × (r.cell e.label ≡ p.cell)
        one (inl a) = subst (λ (y : Entry L). Fits r y.label × (r.cell y.label ≡ p.cell)) (sym a.1) (may.fits, sym (ap (λ (z : Place). z.cell) a.0))
        one (inr (d, s', was)) = subst (λ l. Fits r l × (r.cell l ≡ p.cell)) (sym (label_stays t c new p d e was)) (sound.at_home p d s')

    parent : (d : Entry L) × StandsAt after o.parent d × Extends r d.label o.arc new.label
    parent = parent_still r t after put_stays o.parent o.arc new.label may.parent

    leads_still : (p : Place) (e : Entry L) → StandsAt after p e → (arcs : List ℕ) × LeadsBack after p arcs
    leads_still p e s = one (back p e s)
      where
        one : Came t c new p e → (arcs : List ℕ) × LeadsBack after p arcs
        one (inl a) =
            let before = sound.origins.lead_back o.parent may.parent.0 may.parent.1 in (
              o.arc ∷ before.0,
              subst (λ z. LeadsBack after z (o.arc ∷ before.0)) (sym a.0)
                  (new, stands, o.parent, may.origin_is, leads_back_still t after put_stays before.0 o.parent before.1),
            )
        one (inr (d, s', was)) = let before = sound.origins.lead_back p d s' in (before.0, leads_back_still t after put_stays before.0 p before.1)

    differ_still : (p q : Place) (e d : Entry L) → StandsAt after p e → StandsAt after q d → e.origin ≡ d.origin → p ≡ q
    differ_still p q e d sp sq is = both (back p e sp) (back q d sq)
      where
        both : Came t c new p e → Came t c new q d → p ≡ q
        both (inl a) (inl b) = a.0 ∙ sym b.0
        both (inl a) (inr (x, s, was)) = absurd (may.origin_new q x s (sym (origin_stays t c new q x d was) ∙ sym is ∙ ap (λ (y : Entry L). y.origin) a.1 ∙ may.origin_is))
        both (inr (x, s, was)) (inl b) = absurd (may.origin_new p x s (sym (origin_stays t c new p x e was) ∙ is ∙ ap (λ (y : Entry L). y.origin) b.1 ∙ may.origin_is))
        both (inr (x, s, was)) (inr (y, s', was')) = sound.origins.differ p q x y s s' (sym (origin_stays t c new p x e was) ∙ is ∙ origin_stays t c new q y d was')

    same_origin : (a b : Origin) → Some a ≡ Some b → a ≡ b
    same_origin a b h = (cc)

    extended_still : (p : Place) (e : Entry L) (u : Origin) → StandsAt after p e → e.origin ≡ Some u → (d : Entry L) × StandsAt after u.parent d × Extends r d.label u.arc e.label
    extended_still p e u s from = one (back p e s)
      where
        one : Came t c new p e → (d : Entry L) × StandsAt after u.parent d × Extends r d.label u.arc e.label
        one (inl a) =
            let is : o ≡ u = same_origin o u (sym may.origin_is ∙ sym (ap (λ (y : Entry L). y.origin) a.1) ∙ from) in
            subst (λ (v : Origin). (d : Entry L) × StandsAt after v.parent d × Extends r d.label v.arc e.label) is
            (subst (λ (y : Entry L). (d : Entry L) × StandsAt after o.parent d × Extends r d.label o.arc y.label) (sym a.1) parent)
        one (inr (d, s', was)) =
            let x = sound.labels.extended p d u s' (sym (origin_stays t c new p d e was) ∙ from) in
            parent_still r t after put_stays u.parent u.arc e.label (subst (λ l. (y : Entry L) × StandsAt t u.parent y × Extends r y.label u.arc l) (sym (label_stays t c new p d e was)) x)

    linked_still : (p q : Place) (e : Entry L) → StandsAt after p e → e.gone ≡ Some q → (d : Entry L) × StandsAt after q d × Dominates r d.label e.label
    linked_still p q e s g = one (back p e s)
      where
        been : (d : Entry L) → StandsAt t p d → (x : Entry L) → Became t c new p d x → x.gone ≡ Some q → (y : Entry L) × StandsAt after q y × Dominates r y.label x.label
        been d s' x (same h) g' =
            let link = sound.links.linked p q d s' g' in
            let f = forth q link.0 link.1 in
            (f.0, f.1, subst (λ l. Dominates r l d.label) (sym (label_stays t c new q link.0 f.0 f.2)) link.2)
        been d s' x (went here k dom) g' = (new, subst (λ z. StandsAt after z new) (cc) stands, dom)

        one : Came t c new p e → (d : Entry L) × StandsAt after q d × Dominates r d.label e.label
        one (inl a) = absurd (let k = may.kept in cc (ap (λ (y : Entry L). y.gone) a.1))
        one (inr (d, s', was)) = been d s' e was g

    kept_still : (p : Place) (e : Entry L) → StandsAt after p e → (path : List Place) × LinksOver after p path
    kept_still p e s = one (back p e s)
      where
        one : Came t c new p e → (path : List Place) × LinksOver after p path
        one (inl a) = ([], (new, subst (λ z. StandsAt after z new) (sym a.0) stands, may.kept))
        one (inr (d, s', was)) = let before = sound.links.kept_at_last p d s' in links_still before.0 p before.1

    -- a new entry keeps the table sound
    pub put_keeps : IsSound r (put r t (r.cell new.label) new)
    put_keeps = record {
      cell_each = length-set t c (put_into r (entries_of t c) c new) ∙ sound.cell_each;
      at_home = home_still;
      origins = record { lead_back = leads_still; differ = differ_still };
      labels = record { root = root_still r t after put_stays sound.labels; extended = extended_still };
      links = record { linked = linked_still; kept_at_last = kept_still };
      apart = apart_still;
    }
