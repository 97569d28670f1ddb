-- A mark at an entry keeps the table sound.
use Rattle.std.proofs.Common.{◌≡◌, ◌≢◌, ◌⊎◌, false, Some, List, [], ◌∷◌, set, refl, sym, ap, ◌∙◌, subst, ⊎_elim, arith}
use Rattle.std.proofs.lemmas.List.{length-set}
use Rattle.std.proofs.lemmas.Int.{ints}
use Rattle.std.specs.Prelude.{ℤ, ◌≤ℤ◌, ◌<ℤ◌}
use native.Mathlib.Decide.{ℕ_discrete}
use mathlib.Core.Logic.{dite}
use Rattle.label_space.specs.Rules.{Rules, Dominates}
use Rattle.label_space.specs.Laws.{IsLawful}
use Rattle.label_core.specs.declared.table.Place.{Place}
use Rattle.label_core.specs.declared.table.Entry.{Entry}
use Rattle.label_core.specs.Tables.{Cells, entries_of, StandsAt, IsKept}
use Rattle.label_core.specs.Points.{LinksOver, IsSound}
use Rattle.label_core.specs.Puts.{gone_by, set_at, MayGo}
use Rattle.label_core.proofs.Lookup.{some_same, same_or_apart, same_entry, set_here, set_else, set_back}
use Rattle.label_core.specs.Points.{Stays}
use Rattle.label_core.proofs.Stays.{home_still, origins_still, labels_still}

less : (a b : ℤ) → a ≤ℤ b → a ≢ b → a <ℤ b
less a b h n = omega (arith, ints)

not_less : (a : ℤ) → a <ℤ a → ⊥
not_less a h = omega (arith, ints)

less_through : (a b c : ℤ) → a ≤ℤ b → b <ℤ c → a <ℤ c
less_through a b c h k = omega (arith, ints)

module _ {L : Type 0} (r : Rules L) (law : IsLawful r) (t : Cells L) (sound : IsSound r t) (p q : Place) (e d : Entry L) (may : MayGo r t p q e d) where
  abbrev gone : Entry L
  gone = gone_by q e

  abbrev after : Cells L
  after = set_at t p gone

  here : StandsAt after p gone
  here = set_here t p gone e may.stands

  stands_still : (x : Place) (y : Entry L) → x ≢ p → StandsAt t x y → StandsAt after x y
  stands_still x y n s = set_else t p gone e may.stands x n ∙ s

  back : (x : Place) (y : Entry L) → StandsAt after x y → ((x ≡ p) × (y ≡ gone)) ⊎ ((x ≢ p) × StandsAt t x y)
  back x y s = set_back t p gone e may.stands x y s

  is_e : (x : Place) (y : Entry L) → x ≡ p → StandsAt t x y → y ≡ e
  is_e x y same s = same_entry t p y e (subst (λ z. StandsAt t z y) same s) may.stands

  pub mark_stays : Stays t after
  mark_stays x y s = ⊎_elim
      (λ same. (
        gone,
        subst (λ z. StandsAt after z gone) (sym same) here,
        ap (λ (z : Entry L). z.label) (sym (is_e x y same s)),
        ap (λ (z : Entry L). z.origin) (sym (is_e x y same s)),
      ))
      (λ n. (y, stands_still x y n s, refl, refl))
      (same_or_apart x p)

  was : Stays after t
  was x z s = ⊎_elim
      (λ (a : (x ≡ p) × (z ≡ gone)). (
        e,
        subst (λ v. StandsAt t v e) (sym a.0) may.stands,
        ap (λ (u : Entry L). u.label) (sym a.1),
        ap (λ (u : Entry L). u.origin) (sym a.1),
      ))
      (λ (a : (x ≢ p) × StandsAt t x z). (z, a.1, refl, refl))
      (back x z s)

  -- an entry of a smaller level is not the one that goes
  elsewhere : (x : Place) (y : Entry L) → StandsAt t x y → r.level y.label <ℤ r.level e.label → x ≢ p
  elsewhere x y s small same = not_less (r.level e.label) (subst (λ (v : Entry L). r.level v.label <ℤ r.level e.label) (is_e x y same s) small)

  -- from an entry of a smaller level the links lead as before, since levels never rise along a link
  links_below : (path : List Place) (x : Place) (y : Entry L) → StandsAt t x y → r.level y.label <ℤ r.level e.label
      → LinksOver t x path → LinksOver after x path
  links_below [] x y s small (z, s', k) = (z, stands_still x z (elsewhere x y s small) s', k)
  links_below (w ∷ path) x y s small (z, s', g, rest) =
      (z, stands_still x z (elsewhere x y s small) s', g, links_below path w link.0 link.1 lower rest)
    where
      link : (v : Entry L) × StandsAt t w v × Dominates r v.label z.label
      link = sound.links.linked x w z s' g

      lower : r.level link.0.label <ℤ r.level e.label
      lower = less_through (r.level link.0.label) (r.level z.label) (r.level e.label)
          (law.level_no_greater link.0.label z.label (sound.at_home w link.0 link.1).0 (sound.at_home x z s').0 link.2)
          (subst (λ (v : Entry L). r.level v.label <ℤ r.level e.label) (same_entry t x y z s s') small)

  -- the place that takes the entry away leads to a kept entry still
  other_leads : (path : List Place) × LinksOver after q path
  other_leads = dite (ℕ_discrete q.cell p.cell)
      (λ same. ([], (d, stands_still q d (λ i. may.apart (sym i)) may.other, may.kept_here same)))
      (λ n.
      let before = sound.links.kept_at_last q d may.other in
      let fd = sound.at_home q d may.other in
      let fe = sound.at_home p e may.stands in (
        before.0,
        links_below before.0 q d may.other
            (less (r.level d.label) (r.level e.label) (law.level_no_greater d.label e.label fd.0 fe.0 may.dominates)
            (λ i. n (sym fd.1 ∙ law.equal_level_one_cell d.label e.label fd.0 fe.0 may.dominates i ∙ fe.1)))
            before.1,
      ))

  through : (x : Place) → x ≡ p → (path : List Place) × LinksOver after x path
  through x same = (q ∷ other_leads.0, (gone, subst (λ z. StandsAt after z gone) (sym same) here, refl, other_leads.1))

  links_still : (path : List Place) (x : Place) → LinksOver t x path → (longer : List Place) × LinksOver after x longer
  links_still [] x (z, s, k) = ⊎_elim (λ same. through x same) (λ n. ([], (z, stands_still x z n s, k))) (same_or_apart x p)
  links_still (y ∷ path) x (z, s, g, rest) = ⊎_elim (λ same. through x same)
      (λ n. let m = links_still path y rest in (y ∷ m.0, (z, stands_still x z n s, g, m.1))) (same_or_apart x p)

  linked_still : (x y : Place) (z : Entry L) → StandsAt after x z → z.gone ≡ Some y → (v : Entry L) × StandsAt after y v × Dominates r v.label z.label
  linked_still x y z s g = ⊎_elim
      (λ (a : (x ≡ p) × (z ≡ gone)).
      let is : q ≡ y = some_same q y (sym (ap (λ (u : Entry L). u.gone) a.1) ∙ g) in
      (d, subst (λ u. StandsAt after u d) is (stands_still q d (λ i. may.apart (sym i)) may.other), subst (λ (u : Entry L). Dominates r d.label u.label) (sym a.1) may.dominates))
      (λ (a : (x ≢ p) × StandsAt t x z).
      let link = sound.links.linked x y z a.1 g in
      let f = mark_stays y link.0 link.1 in
      (f.0, f.1, subst (λ l. Dominates r l z.label) (sym f.2) link.2))
      (back x z s)

  apart_still : (x y : Place) (z v : Entry L) → StandsAt after x z → StandsAt after y v → x.cell ≡ y.cell → x ≢ y → IsKept z → IsKept v → r.dominates z.label v.label ≡ false
  apart_still x y z v sx sy one two kz kv = ⊎_elim
      (λ (a : (x ≡ p) × (z ≡ gone)). absurd (not_kept z a.1 kz))
      (λ (a : (x ≢ p) × StandsAt t x z). ⊎_elim
      (λ (b : (y ≡ p) × (v ≡ gone)). absurd (not_kept v b.1 kv))
      (λ (b : (y ≢ p) × StandsAt t y v). sound.apart x y z v a.1 b.1 one two kz kv)
      (back y v sy))
      (back x z sx)
    where
      not_kept : (u : Entry L) → u ≡ gone → IsKept u → ⊥
      not_kept u is k = cc (ap (λ (w : Entry L). w.gone) is)

  -- a mark keeps the table sound
  pub mark_keeps : IsSound r (set_at t p (gone_by q e))
  mark_keeps = record {
    cell_each = length-set t p.cell (set (entries_of t p.cell) p.index gone) ∙ sound.cell_each;
    at_home = home_still r t after mark_stays was sound.at_home;
    origins = origins_still r t after mark_stays was sound.origins;
    labels = labels_still r t after mark_stays was sound.labels;
    links = record {
      linked = linked_still;
      kept_at_last = λ x z s. let b = was x z s in let g = sound.links.kept_at_last x b.0 b.1 in links_still g.0 x g.1;
    };
    apart = apart_still;
  }
