-- What a change keeps that leaves each entry's place, label and origin.
use Rattle.std.proofs.Common.{◌≡◌, ℕ, None, List, [], ◌∷◌, sym, ◌∙◌, subst}
use Rattle.label_space.specs.Rules.{Rules, Fits, Dominates, Extends}
use Rattle.label_core.specs.declared.table.Place.{Place}
use Rattle.label_core.specs.declared.table.Fate.{Fate}
use Rattle.label_core.specs.declared.table.Fate.TheVariants.{Void, At}
use Rattle.label_core.specs.declared.table.Entry.{Entry}
use Rattle.label_core.specs.Tables.{Cells, StandsAt}
use Rattle.label_core.specs.Walks.{LeadsBack, HasOrigins}
use Rattle.label_core.specs.Points.{HasLabels, Stays}
use Rattle.label_core.specs.Fates.{IsLegal, AreLegal}

module _ {L : Type 0} where
  pub leads_back_still : (t u : Cells L) → Stays t u → (arcs : List ℕ) (p : Place) → LeadsBack t p arcs → LeadsBack u p arcs
  leads_back_still t u stays [] p (d, s, none) = let f = stays p d s in (f.0, f.1, f.3 ∙ none)
  leads_back_still t u stays (k ∷ arcs) p (d, s, q, from, rest) =
      let f = stays p d s in (f.0, f.1, q, f.3 ∙ from, leads_back_still t u stays arcs q rest)

  module _ (r : Rules L) where
    pub legal_still : (t u : Cells L) → Stays t u → (l : L) (k : ℕ) (f : Fate) → IsLegal r t l k f → IsLegal r u l k f
    legal_still t u stays l k Void none = none
    legal_still t u stays l k (At q) (m, x, d, s, dom) =
        let f = stays q d s in (m, x, f.0, f.1, subst (λ z. Dominates r z m) (sym f.2) dom)

    pub all_legal_still : (t u : Cells L) → Stays t u → (l : L) (fates : List Fate) → AreLegal r t l fates → AreLegal r u l fates
    all_legal_still t u stays l fates all = λ k f at. legal_still t u stays l k f (all k f at)

    -- the root stands still
    pub root_still : (t u : Cells L) → Stays t u → HasLabels r t
        → (p : Place) × (e : Entry L) × StandsAt u p e × (e.origin ≡ None) × (e.label ≡ r.root)
    root_still t u stays labels =
        let was = labels.root in
        let f = stays was.0 was.1 was.2 in
        (was.0, f.0, f.1, f.3 ∙ was.3, f.2 ∙ was.4)

    -- a parent stands still
    pub parent_still : (t u : Cells L) → Stays t u → (q : Place) (k : ℕ) (l : L)
        → (d : Entry L) × StandsAt t q d × Extends r d.label k l → (e : Entry L) × StandsAt u q e × Extends r e.label k l
    parent_still t u stays q k l (d, s, x) =
        let f = stays q d s in (f.0, f.1, subst (λ z. Extends r z k l) (sym f.2) x)

    -- Where no entry came either, the entries are at home and have their origins and labels still
    module _ (t u : Cells L) (forth : Stays t u) (back : Stays u t) where
      pub home_still : ((p : Place) (e : Entry L) → StandsAt t p e → Fits r e.label × (r.cell e.label ≡ p.cell))
          → (p : Place) (e : Entry L) → StandsAt u p e → Fits r e.label × (r.cell e.label ≡ p.cell)
      home_still home p e s =
          let b = back p e s in subst (λ l. Fits r l × (r.cell l ≡ p.cell)) b.2 (home p b.0 b.1)

      pub origins_still : HasOrigins t → HasOrigins u
      origins_still origins = record {
        lead_back = λ p e s. let b = back p e s in let w = origins.lead_back p b.0 b.1 in (w.0, leads_back_still t u forth w.0 p w.1);
        differ = λ p q e d sp sq is. let b = back p e sp in let c = back q d sq in
            origins.differ p q b.0 c.0 b.1 c.1 (b.3 ∙ is ∙ sym c.3);
      }

      pub labels_still : HasLabels r t → HasLabels r u
      labels_still labels = record {
        root = root_still t u forth labels;
        extended = λ p e o s from.
            let b = back p e s in
            let x = labels.extended p b.0 o b.1 (b.3 ∙ from) in
            parent_still t u forth o.parent o.arc e.label (subst (λ l. (d : Entry L) × StandsAt t o.parent d × Extends r d.label o.arc l) b.2 x);
      }
