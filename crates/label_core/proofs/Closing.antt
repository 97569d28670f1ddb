-- A sound table whose kept entries are done is closed, and represents every list of choices.
use Rattle.std.proofs.Common.{◌≡◌, ℕ, ◌<◌, Some, None, List, [], ◌∷◌, take, refl, sym, ◌∙◌, subst}
use Rattle.label_space.specs.Rules.{Rules, Fits, Dominates, Extends}
use Rattle.label_space.specs.Laws.{IsLawful}
use Rattle.label_core.specs.declared.table.Place.{Place}
use Rattle.label_core.specs.declared.table.Fate.{Fate}
use Rattle.label_core.specs.declared.table.Fate.TheVariants.{Void, At}
use Rattle.label_core.specs.declared.table.Entry.{Entry}
use Rattle.label_core.specs.Tables.{Cells, StandsAt, IsKept, HasKept}
use Rattle.label_core.specs.Points.{LinksOver, IsSound}
use Rattle.label_core.specs.Closed.{Covers, IsClosed, RepresentsAll}
use Rattle.label_core.specs.Walks.{Reaches}
use Rattle.label_core.specs.Fates.{IsFinished, IsLegal, HasFates}
use Rattle.label_core.proofs.Lookup.{some_same, same_entry, within_is_there}

module _ {L : Type 0} (r : Rules L) (law : IsLawful r) where
  -- every label that choices lead to is one of the space
  pub reached_fits : (choices : List ℕ) (l m : L) → Fits r l → Reaches r l choices m → Fits r m
  reached_fits [] l m f is = subst (λ z. Fits r z) is f
  reached_fits (k ∷ rest) l m f (n, x, on) = reached_fits rest n m (law.extension_fits l k n f x) on

  -- a closed set of labels represents every list of choices
  module _ (Has : L → Type 0) (all_fit : (l : L) → Has l → Fits r l) (closed : IsClosed r Has) where
    covered_from : (choices : List ℕ) (l m : L) → Fits r l → Covers r Has l → Reaches r l choices m → Covers r Has m
    covered_from [] l m f cover is = subst (λ z. Covers r Has z) is cover
    covered_from (k ∷ rest) l m f (a, has, dom) (n, x, on) =
        let fa = all_fit a has in
        let fn = law.extension_fits l k n f x in
        let y = law.extends_too a l k n fa f dom x in
        let b = closed.1 a k y.0 has y.1 in
        covered_from rest n m fn
        (b.0, b.1, law.transitive b.0 y.0 n (all_fit b.0 b.1) (law.extension_fits a k y.0 fa y.1) fn b.2 y.2) on

    pub closed_represents : RepresentsAll r Has
    closed_represents = λ choices m reached n l on. covered_from (take n choices) r.root l law.root_fits closed.0 on

  module _ (t : Cells L) (sound : IsSound r t) where
    pub kept_fits : (l : L) → HasKept t l → Fits r l
    kept_fits l (p, e, s, k, is) = subst (λ z. Fits r z) is (sound.at_home p e s).0

    -- the links lead to a kept entry that dominates the first
    links_dominate : (path : List Place) (p : Place) (e : Entry L) → StandsAt t p e → LinksOver t p path → Covers r (HasKept t) e.label
    links_dominate [] p e s (z, s', k) =
        (z.label, (p, z, s', k, refl), subst (λ (v : Entry L). Dominates r z.label v.label) (same_entry t p z e s' s) (law.reflexive z.label (sound.at_home p z s').0))
    links_dominate (q ∷ path) p e s (z, s', g, rest) =
        let link = sound.links.linked p q z s' g in
        let last = links_dominate path q link.0 link.1 rest in (
          last.0,
          last.1,
          subst (λ (v : Entry L). Dominates r last.0 v.label) (same_entry t p z e s' s)
              (law.transitive last.0 link.0.label z.label (kept_fits last.0 last.1) (sound.at_home q link.0 link.1).0 (sound.at_home p z s').0 last.2 link.2),
        )

    -- a kept entry dominates each entry
    pub entry_covered : (p : Place) (e : Entry L) → StandsAt t p e → Covers r (HasKept t) e.label
    entry_covered p e s = let path = sound.links.kept_at_last p e s in links_dominate path.0 p e s path.1

    -- what an entry dominates a kept one dominates
    pub covers_more : (p : Place) (e : Entry L) (m : L) → Fits r m → StandsAt t p e → Dominates r e.label m → Covers r (HasKept t) m
    covers_more p e m f s dom =
        let v = entry_covered p e s in
        (v.0, v.1, law.transitive v.0 e.label m (kept_fits v.0 v.1) (sound.at_home p e s).0 f v.2 dom)

    module _ (fated : HasFates r t) (finished : IsFinished t) where
      fate_covers : (l : L) (k : ℕ) (m : L) (f : Fate) → Fits r m → Extends r l k m → IsLegal r t l k f → Covers r (HasKept t) m
      fate_covers l k m Void fits x none = absurd (let h : None ≡ Some m = sym none ∙ x.1 in cc)
      fate_covers l k m (At q) fits x (n, y, d, s, dom) =
          covers_more q d m fits s (subst (λ z. Dominates r d.label z) (some_same n m (sym y.1 ∙ x.1)) dom)

      entry_extension_covered : (p : Place) (e : Entry L) (k : ℕ) (m : L) → StandsAt t p e → IsKept e → Extends r e.label k m → Covers r (HasKept t) m
      entry_extension_covered p e k m s kept x =
          let done = finished p e s kept in
          let all = fated p e done.0 s done.1 in
          let f = within_is_there done.0 k (subst (λ n. k < n) (sym all.0) x.0) in
          fate_covers e.label k m f.0 (law.extension_fits e.label k m (sound.at_home p e s).0 x) x (all.1 k f.0 f.1)

      extension_covered : (l : L) (k : ℕ) (m : L) → HasKept t l → Extends r l k m → Covers r (HasKept t) m
      extension_covered l k m (p, e, s, kept, is) x = entry_extension_covered p e k m s kept (subst (λ z. Extends r z k m) (sym is) x)

      pub finished_is_closed : IsClosed r (HasKept t)
      finished_is_closed =
          let root = sound.labels.root in
          (subst (λ l. Covers r (HasKept t) l) root.4 (entry_covered root.0 root.1 root.2), extension_covered)

    pub finished_represents : HasFates r t → IsFinished t → RepresentsAll r (HasKept t)
    finished_represents fated finished = closed_represents (HasKept t) kept_fits (finished_is_closed fated finished)
