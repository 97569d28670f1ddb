-- Partial walks of the entries of a sound table.
use Rattle.std.proofs.Common.{◌≡◌, ℕ, Some, None, List, [], ◌∷◌, ◌++◌, reverse, refl, sym, ap, ◌∙◌, subst}
use Rattle.std.proofs.lemmas.List.{reverse-append, reverse-reverse}
use Rattle.label_space.specs.Rules.{Rules, Extends}
use Rattle.label_core.specs.declared.table.Place.{Place}
use Rattle.label_core.specs.declared.table.Entry.{Entry}
use Rattle.label_core.specs.Tables.{Cells, StandsAt}
use Rattle.label_core.specs.Walks.{origin, Reaches, LeadsBack, HasOrigins, AreDifferentWalks}
use Rattle.label_core.specs.Points.{HasLabels, IsSound}
use Rattle.label_core.proofs.Lookup.{same_entry}

module _ {L : Type 0} where
  -- one choice more
  pub reaches_more : (r : Rules L) (choices : List ℕ) (l m n : L) (k : ℕ) → Reaches r l choices m → Extends r m k n → Reaches r l (choices ++ k ∷ []) n
  reaches_more r [] l m n k is x = (n, subst (λ z. Extends r z k n) (sym is) x, refl)
  reaches_more r (j ∷ rest) l m n k (a, y, on) x = (a, y, reaches_more r rest a m n k on x)

  module _ (t : Cells L) (origins : HasOrigins t) where
    -- the same arcs lead back from one place alone
    one_place_back : (arcs : List ℕ) (p q : Place) → LeadsBack t p arcs → LeadsBack t q arcs → p ≡ q
    one_place_back [] p q (e, s, none) (d, s', none') = origins.differ p q e d s s' (none ∙ sym none')
    one_place_back (k ∷ arcs) p q (e, s, a, from, rest) (d, s', b, from', rest') =
        let same = one_place_back arcs a b rest rest' in
        origins.differ p q e d s s' (from ∙ ap (λ z. Some (origin z k)) same ∙ sym from')

    module _ (r : Rules L) (labels : HasLabels r t) where
      root_label : (p : Place) (e : Entry L) → StandsAt t p e → e.origin ≡ None → r.root ≡ e.label
      root_label p e s none =
          let root = labels.root in
          let same = origins.differ root.0 p root.1 e root.2 s (root.3 ∙ sym none) in
          sym root.4 ∙ ap (λ (z : Entry L). z.label) (same_entry t p root.1 e (subst (λ z. StandsAt t z root.1) same root.2) s)

      -- the arcs back, told from the root on, lead to the entry's label
      back_reaches : (arcs : List ℕ) (p : Place) (e : Entry L) → StandsAt t p e → LeadsBack t p arcs → Reaches r r.root (reverse arcs) e.label
      back_reaches [] p e s (d, s', none) = root_label p e s (ap (λ (z : Entry L). z.origin) (same_entry t p e d s s') ∙ none)
      back_reaches (k ∷ arcs) p e s (d, s', q, from, rest) =
          let x = labels.extended p e (origin q k) s (ap (λ (z : Entry L). z.origin) (same_entry t p e d s s') ∙ from) in
          subst (λ walk. Reaches r r.root walk e.label) (sym (reverse-append (k ∷ []) arcs))
          (reaches_more r (reverse arcs) r.root x.0.label e.label k (back_reaches arcs q x.0 x.1 rest) x.2)

  -- the entries of a sound table are different partial walks
  pub sound_walks_differ : (r : Rules L) (t : Cells L) → IsSound r t → AreDifferentWalks r t
  sound_walks_differ r t sound = record {
    walk = λ p e s.
        let back = sound.origins.lead_back p e s in (
          reverse back.0,
          subst (λ arcs. LeadsBack t p arcs) (sym (reverse-reverse back.0)) back.1,
          back_reaches t sound.origins r sound.labels back.0 p e s back.1,
        );
    differ = λ p q arcs a b. one_place_back t sound.origins (reverse arcs) p q a b;
  }
