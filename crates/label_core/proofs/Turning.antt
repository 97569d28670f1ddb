-- Another turn at an entry keeps the table sound.
use Rattle.std.proofs.Common.{◌≡◌, ◌≢◌, false, List, [], ◌∷◌, set, refl, sym, ap, ◌∙◌, subst, ⊎_elim}
use Rattle.std.proofs.lemmas.List.{length-set}
use Rattle.label_space.specs.Rules.{Rules, Dominates}
use Rattle.label_core.specs.declared.table.Place.{Place}
use Rattle.label_core.specs.declared.table.Turn.{Turn}
use Rattle.label_core.specs.declared.table.Entry.{Entry}
use Rattle.label_core.specs.Tables.{Cells, entries_of, StandsAt}
use Rattle.label_core.specs.Points.{LinksOver, IsSound}
use Rattle.label_core.specs.Puts.{set_at, with_turn}
use Rattle.label_core.proofs.Lookup.{same_or_apart, same_entry, set_here, set_else, set_back}
use Rattle.label_core.specs.Points.{Stays}
use Rattle.label_core.proofs.Stays.{home_still, origins_still, labels_still}

module _ {L : Type 0} (t : Cells L) (p : Place) (e : Entry L) (turn : Turn) (stands : StandsAt t p e) where
  abbrev pub turned : Cells L
  turned = set_at t p (with_turn turn e)

  -- what stands at a place, before and after, is alike but for the turn
  abbrev pub Alike : Cells L → Cells L → Type 0
  Alike t u = (q : Place) (x : Entry L) → StandsAt t q x
      → (y : Entry L) × StandsAt u q y × (y.label ≡ x.label) × (y.origin ≡ x.origin) × (y.gone ≡ x.gone)

  pub turn_forth : Alike t turned
  turn_forth q x s = ⊎_elim
      (λ same. let is : x ≡ e = same_entry t p x e (subst (λ z. StandsAt t z x) same s) stands in (
        with_turn turn e,
        subst (λ z. StandsAt turned z (with_turn turn e)) (sym same) (set_here t p (with_turn turn e) e stands),
        ap (λ (z : Entry L). z.label) (sym is),
        ap (λ (z : Entry L). z.origin) (sym is),
        ap (λ (z : Entry L). z.gone) (sym is),
      ))
      (λ n. (x, set_else t p (with_turn turn e) e stands q n ∙ s, refl, refl, refl))
      (same_or_apart q p)

  pub turn_back : Alike turned t
  turn_back q y s = ⊎_elim
      (λ (a : (q ≡ p) × (y ≡ with_turn turn e)). (
        e,
        subst (λ z. StandsAt t z e) (sym a.0) stands,
        ap (λ (z : Entry L). z.label) (sym a.1),
        ap (λ (z : Entry L). z.origin) (sym a.1),
        ap (λ (z : Entry L). z.gone) (sym a.1),
      ))
      (λ (a : (q ≢ p) × StandsAt t q y). (y, a.1, refl, refl, refl))
      (set_back t p (with_turn turn e) e stands q y s)

  pub turn_stays : Stays t turned
  turn_stays q x s = let f = turn_forth q x s in (f.0, f.1, f.2, f.3)

  turn_was : Stays turned t
  turn_was q x s = let f = turn_back q x s in (f.0, f.1, f.2, f.3)

  links_still : (path : List Place) (q : Place) → LinksOver t q path → LinksOver turned q path
  links_still [] q (x, s, k) = let f = turn_forth q x s in (f.0, f.1, f.4 ∙ k)
  links_still (w ∷ path) q (x, s, g, rest) = let f = turn_forth q x s in (f.0, f.1, f.4 ∙ g, links_still path w rest)

  -- a changed turn keeps the table sound
  pub turn_keeps : (r : Rules L) → IsSound r t → IsSound r turned
  turn_keeps r sound = record {
    cell_each = length-set t p.cell (set (entries_of t p.cell) p.index (with_turn turn e)) ∙ sound.cell_each;
    at_home = home_still r t turned turn_stays turn_was sound.at_home;
    origins = origins_still r t turned turn_stays turn_was sound.origins;
    labels = labels_still r t turned turn_stays turn_was sound.labels;
    links = record {
      linked = λ x y z s g.
          let b = turn_back x z s in
          let link = sound.links.linked x y b.0 b.1 (b.4 ∙ g) in
          let f = turn_forth y link.0 link.1 in
          (f.0, f.1, subst (λ l. Dominates r l z.label) (sym f.2) (subst (λ l. Dominates r link.0.label l) b.2 link.2));
      kept_at_last = λ x z s. let b = turn_back x z s in let w = sound.links.kept_at_last x b.0 b.1 in (w.0, links_still w.0 x w.1);
    };
    apart = λ x y z v sx sy one two kz kv.
        let b = turn_back x z sx in
        let c = turn_back y v sy in
        subst (λ l. r.dominates l v.label ≡ false) b.2 (subst (λ l. r.dominates b.0.label l ≡ false) c.2 (sound.apart x y b.0 c.0 b.1 c.1 one two (b.4 ∙ kz) (c.4 ∙ kv)));
  }
