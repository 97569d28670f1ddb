-- Each step of filling keeps what holds while a table is being filled.
use Rattle.std.proofs.Common.{◌≡◌, ◌≢◌, ◌⊎◌, ℕ, ◌+◌, ◌<◌, ◌≤◌, Some, List, [], ◌∷◌, ◌++◌, length, set, map, length-append, refl, sym, ap, ◌∙◌, subst, inl, inr, ⊎_elim, arith}
use Rattle.std.proofs.lemmas.List.{length-map, length-set}
use Rattle.std.proofs.lemmas.List.Sums.{sum_by-set}
use Rattle.std.proofs.lemmas.Option.{slice_get_within}
use Rattle.std.specs.Prelude.{slice_get}
use Rattle.label_space.specs.Rules.{Rules, Fits, Extends}
use Rattle.label_space.specs.Laws.{IsLawful}
use Rattle.label_core.specs.declared.table.Place.{Place}
use Rattle.label_core.specs.declared.table.Origin.{Origin}
use Rattle.label_core.specs.declared.table.Fate.{Fate}
use Rattle.label_core.specs.declared.table.Fate.TheVariants.{At}
use Rattle.label_core.specs.declared.table.Turn.TheVariants.{Fresh, Done}
use Rattle.label_core.specs.declared.table.Entry.{Entry}
use Rattle.label_core.specs.Tables.{Cells, place, entries_of, entry_count, StandsAt, IsKept}
use Rattle.label_core.specs.Walks.{origin}
use Rattle.label_core.specs.Points.{IsSound}
use Rattle.label_core.specs.Puts.{fresh, with_turn, set_at, beside, put_into, put, CoversAt, CoversNot, EachFits, MayPut}
use Rattle.label_core.specs.Fates.{IsDone, HasFates, IsLegal, AreLegal}
use Rattle.label_core.proofs.Lookup.{some_same, at_front, front_or_end, none_at_end, cell_there, same_or_apart, same_entry, set_here, set_back}
use Rattle.label_core.specs.Points.{Stays}
use Rattle.label_core.proofs.Stays.{all_legal_still}
use Rattle.label_core.proofs.Turning.{turn_back, turn_keeps}
use Rattle.label_core.proofs.Putting.{Became, still_kept, label_stays, origin_stays, put_forth, put_back, new_stands, cell_is_there, put_stays, put_keeps}
use Rattle.plain_table.specs.Fillings.{Waits, IsChildless, IsInTurn, IsToExtend, IsNotToExtend, IsSteady, Fills, Extending, AtWall}

-- a place that is not the one whose turn it is waits still
waits_on : (order : List Place) (next : ℕ) (p q : Place) → slice_get order next ≡ Some p → q ≢ p → Waits order next q → Waits order (next + 1) q
waits_on order next p q turn apart (i, h, at) =
    let later : i ≢ next = λ is. apart (some_same q p (sym at ∙ ap (λ k. slice_get order k) is ∙ turn)) in
    (i, omega arith, at)

waits_longer : (order : List Place) (next : ℕ) (p q : Place) → Waits order next q → Waits (order ++ p ∷ []) next q
waits_longer order next p q (i, h, at) = (i, h, at_front order p q i at)

module _ {L : Type 0} (r : Rules L) where
  pub legal_push : (t : Cells L) (l : L) (fates : List Fate) (f : Fate) → AreLegal r t l fates → IsLegal r t l (length fates) f → AreLegal r t l (fates ++ f ∷ [])
  legal_push t l fates f all one = λ k g at. ⊎_elim
      (λ old. all k g old)
      (λ (last : (k ≡ length fates) × (f ≡ g)). subst (λ n. IsLegal r t l n g) (sym last.0) (subst (λ x. IsLegal r t l (length fates) x) last.1 one))
      (front_or_end fates f g k at)

  pub each_fits : (t : Cells L) (c : ℕ) → IsSound r t → EachFits r (entries_of t c)
  each_fits t c sound = λ i e at. (sound.at_home (place c i) e at).0

  pub few_in_cell : (t : Cells L) (c : ℕ) → c < length t → length (entries_of t c) ≤ entry_count t
  few_in_cell t c room = let h = sum_by-set length t c [] [] room in omega arith

  module _ (limit : ℕ) (t : Cells L) (order : List Place) (next : ℕ) where
    -- an entry that is gone or is done has its turn for nothing
    pub skips : (p : Place) (e : Entry L) → Fills r limit t order next → slice_get order next ≡ Some p → StandsAt t p e → IsNotToExtend e → Fills r limit t order (next + 1)
    skips p e fills turn s idle = record {
      steady = fills.steady;
      reached = let h = slice_get_within order next p turn in omega arith;
      turns = λ q x sx. ⊎_elim
          (λ done. inl done)
          (λ (w : (x.turn ≡ Fresh) × IsChildless t q × (IsKept x → Waits order next q)). inr (
            w.0,
            w.1,
            λ kept. ⊎_elim
                (λ same. let is : x ≡ e = same_entry t p x e (subst (λ z. StandsAt t z x) same sx) s in
                absurd (idle (subst (λ (z : Entry L). IsKept z) is kept) (sym (ap (λ (z : Entry L). z.turn) is) ∙ w.0)))
                (λ apart. waits_on order next p q turn apart (w.2 kept))
                (same_or_apart q p),
          ))
          (fills.turns q x sx);
    }

    -- the turn of a kept and fresh entry begins
    pub starts : (p : Place) (e : Entry L) (l : L) → Fills r limit t order next → slice_get order next ≡ Some p → StandsAt t p e → IsToExtend e l → Extending r limit t order (next + 1) p l []
    starts p e l fills turn s to = record {
      steady = fills.steady;
      reached = let h = slice_get_within order next p turn in omega arith;
      here = (e, s, to.0);
      others = λ q x sx apart. ⊎_elim
          (λ done. inl done)
          (λ (w : (x.turn ≡ Fresh) × IsChildless t q × (IsKept x → Waits order next q)). inr (w.0, w.1, λ kept. waits_on order next p q turn apart (w.2 kept)))
          (fills.turns q x sx);
      children = λ q d o sd from is. absurd (⊎_elim
          (λ (done : IsDone e). let h = done.1 in let k = to.1 in (cc))
          (λ (w : (e.turn ≡ Fresh) × IsChildless t p × (IsKept e → Waits order next p)). w.1 q d o sd from is)
          (fills.turns p e s));
      legal = λ k f at. absurd (cc);
    }

    module _ (p : Place) (l : L) (fates : List Fate) (now : Extending r limit t order next p l fates) where
      -- a fate is noted, and the table stays as it was
      pub notes : (f : Fate) → IsLegal r t l (length fates) f → Extending r limit t order next p l (fates ++ f ∷ [])
      notes f one = record {
        steady = now.steady;
        reached = now.reached;
        here = now.here;
        others = now.others;
        children = λ q d o s from is. let h = now.children q d o s from is in let n = length-append fates (f ∷ []) in omega arith;
        legal = legal_push t l fates f now.legal one;
      }

      pub covered_is_legal : (m : L) (i : ℕ) → Extends r l (length fates) m → CoversAt r (entries_of t (r.cell m)) m i → IsLegal r t l (length fates) (At (place (r.cell m) i))
      covered_is_legal m i x (e, at, kept, dom) = (m, x, e, at, dom)

      module _ (law : IsLawful r) where
        pub label_fits : Fits r l
        label_fits = subst (λ z. Fits r z) now.here.2 (now.steady.sound.at_home p now.here.0 now.here.1).0

        module _ (m : L) (x : Extends r l (length fates) m) where
          pub longer_fits : Fits r m
          longer_fits = law.extension_fits l (length fates) m label_fits x

          pub longer_room : r.cell m < length t
          longer_room = let h = law.cell_within m longer_fits in let n = now.steady.sound.cell_each in omega arith

          parent : (d : Entry L) × StandsAt t p d × Extends r d.label (length fates) m
          parent = (now.here.0, now.here.1, subst (λ z. Extends r z (length fates) m) (sym now.here.2) x)

          origin_new : (q : Place) (d : Entry L) → StandsAt t q d → d.origin ≢ Some (origin p (length fates))
          origin_new q d s from = let h = now.children q d (origin p (length fates)) s from refl in (omega arith)

          -- at the limit there is one label more
          pub meets_wall : CoversNot r (entries_of t (r.cell m)) m → limit ≤ length order → AtWall r limit t
          meets_wall uncovered full = record {
            sound = now.steady.sound;
            fates = now.steady.fates;
            full = record {
              made = let n = now.steady.counted in let h = now.steady.few in omega arith;
              one_more = (p, parent.0, length fates, m, parent.1, parent.2, uncovered, origin_new);
            };
          }

          module _ (uncovered : CoversNot r (entries_of t (r.cell m)) m) where
            abbrev c : ℕ
            c = r.cell m

            abbrev new : Entry L
            new = fresh m (Some (origin p (length fates)))

            abbrev after : Cells L
            after = put r t c new

            abbrev spot : Place
            spot = place c (length (entries_of t c))

            may : MayPut r t new (origin p (length fates))
            may = record {
              fits = longer_fits;
              kept = refl;
              origin_is = refl;
              origin_new = origin_new;
              parent = parent;
              uncovered = uncovered;
            }

            back : (q : Place) (e : Entry L) → StandsAt after q e → ((q ≡ spot) × (e ≡ new)) ⊎ ((d : Entry L) × StandsAt t q d × Became r t c new q d e)
            back = put_back r t c new longer_room

            forth : (q : Place) (d : Entry L) → StandsAt t q d → (e : Entry L) × StandsAt after q e × Became r t c new q d e
            forth = put_forth r t c new longer_room

            stays : Stays t after
            stays = put_stays r law t now.steady.sound new (origin p (length fates)) may

            stands : StandsAt after spot new
            stands = new_stands r t c new longer_room

            nothing_there : (d : Entry L) → StandsAt t spot d → ⊥
            nothing_there d s = none_at_end (entries_of t c) d s

            turn_stays : (q : Place) (d e : Entry L) → Became r t c new q d e → e.turn ≡ d.turn
            turn_stays q d e was = Rattle.label_core.proofs.Putting.turn_stays r t c new q d e was

            still_fated : HasFates r after
            still_fated q e fs s done = one (back q e s)
              where
                one : ((q ≡ spot) × (e ≡ new)) ⊎ ((d : Entry L) × StandsAt t q d × Became r t c new q d e) → (length fs ≡ r.degree e.label) × AreLegal r after e.label fs
                one (inl a) = absurd (let h = ap (λ (z : Entry L). z.turn) a.1 in cc)
                one (inr (d, s', was)) =
                    let f = now.steady.fates q d fs s' (sym (turn_stays q d e was) ∙ done) in
                    subst (λ z. (length fs ≡ r.degree z) × AreLegal r after z fs) (sym (label_stays r t c new q d e was))
                    (f.0, all_legal_still r t after stays d.label fs f.1)

            one_entry_more : entry_count after ≡ entry_count t + 1
            one_entry_more =
                let h = sum_by-set length t c (put_into r (entries_of t c) c new) [] longer_room in
                let n = length-append (map (beside r m spot) (entries_of t c)) (new ∷ []) in
                let k = length-map (entries_of t c) (beside r m spot) in
                omega arith

            steady : length order < limit → IsSteady r limit after (order ++ spot ∷ [])
            steady room = record {
              sound = put_keeps r law t now.steady.sound new (origin p (length fates)) may;
              fates = still_fated;
              counted = let n = now.steady.counted in let k = length-append order (spot ∷ []) in let h = one_entry_more in omega arith;
              few = let k = length-append order (spot ∷ []) in omega arith;
              placed = λ i q at. ⊎_elim
                  (λ old. let s = now.steady.placed i q old in let f = forth q s.0 s.1 in (f.0, f.1))
                  (λ (last : (i ≡ length order) × (spot ≡ q)). (new, subst (λ z. StandsAt after z new) last.1 stands))
                  (front_or_end order spot q i at);
            }

            -- no entry comes from the new one
            new_childless : IsChildless after spot
            new_childless q d o s from is = one (back q d s)
              where
                from_there : (u : Place) (v : Entry L) → StandsAt t u v → u ≡ spot → ⊥
                from_there u v sv same = nothing_there v (subst (λ z. StandsAt t z v) same sv)

                one : ((q ≡ spot) × (d ≡ new)) ⊎ ((e : Entry L) × StandsAt t q e × Became r t c new q e d) → ⊥
                one (inl a) =
                    let h : Some (origin p (length fates)) ≡ Some o = sym (ap (λ (z : Entry L). z.origin) a.1) ∙ from in
                    let same = some_same (origin p (length fates)) o h in
                    from_there p now.here.0 now.here.1 (ap (λ (z : Origin). z.parent) same ∙ is)
                one (inr (e, se, was)) =
                    let y = now.steady.sound.labels.extended q e o se (sym (origin_stays r t c new q e d was) ∙ from) in
                    from_there o.parent y.0 y.1 is

            -- another entry than the parent is in turn still
            still_in_turn : (q : Place) (d e : Entry L) → q ≢ p → Became r t c new q d e → IsInTurn t order next q d → IsInTurn after (order ++ spot ∷ []) next q e
            still_in_turn q d e apart was (inl done) = inl (done.0, turn_stays q d e was ∙ done.1)
            still_in_turn q d e apart was (inr w) = inr (
              turn_stays q d e was ∙ w.0,
              childless,
              λ kept. let k = still_kept r t c new q d e was kept in
                  waits_longer order next spot q (w.2 (subst (λ (z : Entry L). IsKept z) (sym k.0) kept)),
            )
              where
                childless : IsChildless after q
                childless u v o s from is = one (back u v s)
                  where
                    one : ((u ≡ spot) × (v ≡ new)) ⊎ ((y : Entry L) × StandsAt t u y × Became r t c new u y v) → ⊥
                    one (inl a) =
                        let h : Some (origin p (length fates)) ≡ Some o = sym (ap (λ (z : Entry L). z.origin) a.1) ∙ from in
                        let same = some_same (origin p (length fates)) o h in
                        apart (sym is ∙ sym (ap (λ (z : Origin). z.parent) same))
                    one (inr (y, sy, came)) = w.1 u y o sy (sym (origin_stays r t c new u y v came) ∙ from) is

            -- the label comes to the table as a new entry
            pub comes : length order < limit → Extending r limit after (order ++ spot ∷ []) next p l (fates ++ At spot ∷ [])
            comes room = record {
              steady = steady room;
              reached = let h = now.reached in let k = length-append order (spot ∷ []) in omega arith;
              here = let f = stays p now.here.0 now.here.1 in (f.0, f.1, f.2 ∙ now.here.2);
              others = others;
              children = children;
              legal = legal_push after l fates (At spot) (all_legal_still r t after stays l fates now.legal)
                  (m, x, new, stands, law.reflexive m longer_fits);
            }
              where
                others : (q : Place) (e : Entry L) → StandsAt after q e → q ≢ p → IsInTurn after (order ++ spot ∷ []) next q e
                others q e s apart = one (back q e s)
                  where
                    one : ((q ≡ spot) × (e ≡ new)) ⊎ ((d : Entry L) × StandsAt t q d × Became r t c new q d e) → IsInTurn after (order ++ spot ∷ []) next q e
                    one (inl a) = inr (
                      ap (λ (z : Entry L). z.turn) a.1,
                      subst (λ z. IsChildless after z) (sym a.0) new_childless,
                      λ _. (length order, now.reached, subst (λ z. slice_get (order ++ spot ∷ []) (length order) ≡ Some z) (sym a.0) (Rattle.label_core.proofs.Lookup.at_end order spot)),
                    )
                    one (inr (d, sd, was)) = still_in_turn q d e apart was (now.others q d sd apart)

                children : (q : Place) (d : Entry L) (o : Origin) → StandsAt after q d → d.origin ≡ Some o → o.parent ≡ p → o.arc < length (fates ++ At spot ∷ [])
                children q d o s from is = one (back q d s)
                  where
                    longer : length (fates ++ At spot ∷ []) ≡ length fates + 1
                    longer = length-append fates (At spot ∷ [])

                    one : ((q ≡ spot) × (d ≡ new)) ⊎ ((e : Entry L) × StandsAt t q e × Became r t c new q e d) → o.arc < length (fates ++ At spot ∷ [])
                    one (inl a) =
                        let h : Some (origin p (length fates)) ≡ Some o = sym (ap (λ (z : Entry L). z.origin) a.1) ∙ from in
                        let same = ap (λ (z : Origin). z.arc) (some_same (origin p (length fates)) o h) in
                        let n = longer in omega arith
                    one (inr (e, se, was)) = let h = now.children q e o se (sym (origin_stays r t c new q e d was) ∙ from) is in let n = longer in omega arith

      -- the turn ends: the entry is done
      module _ (e : Entry L) (stands : StandsAt t p e) (all : length fates ≡ r.degree l) where
        abbrev ended : Cells L
        ended = set_at t p (with_turn (Done fates) e)

        to : Stays t ended
        to = Rattle.label_core.proofs.Turning.turn_stays t p e (Done fates) stands

        same_fates : (a b : List Fate) → Done a ≡ Done b → a ≡ b
        same_fates a b h = (cc)

        e_label : e.label ≡ l
        e_label = ap (λ (z : Entry L). z.label) (same_entry t p e now.here.0 stands now.here.1) ∙ now.here.2

        fated : HasFates r ended
        fated q y fs s done = ⊎_elim
            (λ (a : (q ≡ p) × (y ≡ with_turn (Done fates) e)).
            let is = same_fates fates fs (sym (ap (λ (z : Entry L). z.turn) a.1) ∙ done) in
            subst (λ (z : Entry L). (length fs ≡ r.degree z.label) × AreLegal r ended z.label fs) (sym a.1)
            (subst (λ z. (length fs ≡ r.degree z) × AreLegal r ended z fs) (sym e_label)
            (subst (λ z. (length z ≡ r.degree l) × AreLegal r ended l z) is (all, all_legal_still r t ended to l fates now.legal))))
            (λ (a : (q ≢ p) × StandsAt t q y).
            let f = now.steady.fates q y fs a.1 done in (f.0, all_legal_still r t ended to y.label fs f.1))
            (set_back t p (with_turn (Done fates) e) e stands q y s)

        as_many : entry_count ended ≡ entry_count t
        as_many =
            let room = cell_there t p.cell p.index e stands in
            let h = sum_by-set length t p.cell (set (entries_of t p.cell) p.index (with_turn (Done fates) e)) [] room in
            let n = length-set (entries_of t p.cell) p.index (with_turn (Done fates) e) in
            omega arith

        childless_still : (q : Place) → IsChildless t q → IsChildless ended q
        childless_still q none u v o s from is =
            let b = turn_back t p e (Done fates) stands u v s in none u b.0 o b.1 (b.3 ∙ from) is

        pub finishes : Fills r limit ended order next
        finishes = record {
          steady = record {
            sound = turn_keeps t p e (Done fates) stands r now.steady.sound;
            fates = fated;
            counted = as_many ∙ now.steady.counted;
            few = now.steady.few;
            placed = λ i q at. let s = now.steady.placed i q at in let f = to q s.0 s.1 in (f.0, f.1);
          };
          reached = now.reached;
          turns = λ q y s. ⊎_elim
              (λ (a : (q ≡ p) × (y ≡ with_turn (Done fates) e)). inl (fates, ap (λ (z : Entry L). z.turn) a.1))
              (λ (a : (q ≢ p) × StandsAt t q y). ⊎_elim
              (λ done. inl done)
              (λ (w : (y.turn ≡ Fresh) × IsChildless t q × (IsKept y → Waits order next q)). inr (w.0, childless_still q w.1, w.2))
              (now.others q y a.1 a.0))
              (set_back t p (with_turn (Done fates) e) e stands q y s);
        }
