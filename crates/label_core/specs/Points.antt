-- What holds of the entries of a table at any time, however it is filled.
use Rattle.std.specs.Prelude.{◌≡◌, ◌≢◌, false, Some, None, List, [], ◌∷◌, length}
use Rattle.label_space.specs.Rules.{Rules, Fits, Dominates, Extends}
use Rattle.label_core.specs.declared.table.Place.{Place}
use Rattle.label_core.specs.declared.table.Origin.{Origin}
use Rattle.label_core.specs.declared.table.Entry.{Entry}
use Rattle.label_core.specs.Tables.{Cells, StandsAt, IsKept}
use Rattle.label_core.specs.Walks.{HasOrigins}

module _ {L : Type 0} where
  -- the links of `gone` lead from p over these places to a kept entry
  abbrev pub LinksOver : Cells L → Place → List Place → Type 0
  LinksOver t p [] = (e : Entry L) × StandsAt t p e × IsKept e
  LinksOver t p (q ∷ path) = (e : Entry L) × StandsAt t p e × (e.gone ≡ Some q) × LinksOver t q path

  -- each entry of t stands in u too, with its label and its origin
  abbrev pub Stays : Cells L → Cells L → Type 0
  Stays t u = (p : Place) (d : Entry L) → StandsAt t p d
      → (e : Entry L) × StandsAt u p e × (e.label ≡ d.label) × (e.origin ≡ d.origin)

  module _ (r : Rules L) where
    -- The root stands, and each other entry's label is its parent's over the origin's arc
    pub record HasLabels (t : Cells L) : Type 0 where
      pub root : (p : Place) × (e : Entry L) × StandsAt t p e × (e.origin ≡ None)
          × (e.label ≡ r.root)
      pub extended : (p : Place) (e : Entry L) (o : Origin) → StandsAt t p e → e.origin ≡ Some o
          → (d : Entry L) × StandsAt t o.parent d × Extends r d.label o.arc e.label

    -- Each link leads to an entry that dominates, and the links of each entry, over finitely many
    -- places, to a kept one
    pub record HasLinks (t : Cells L) : Type 0 where
      pub linked : (p q : Place) (e : Entry L) → StandsAt t p e → e.gone ≡ Some q
          → (d : Entry L) × StandsAt t q d × Dominates r d.label e.label
      pub kept_at_last : (p : Place) (e : Entry L) → StandsAt t p e
          → (path : List Place) × LinksOver t p path

    -- kept entries of one cell dominate none of each other
    abbrev pub IsApart : Cells L → Type 0
    IsApart t = (p q : Place) (e d : Entry L) → StandsAt t p e → StandsAt t q d → p.cell ≡ q.cell
        → p ≢ q → IsKept e → IsKept d → r.dominates e.label d.label ≡ false

    -- A table of the space: each label in its cell, with its origin and its link
    pub record IsSound (t : Cells L) : Type 0 where
      pub cell_each : length t ≡ r.cells
      pub at_home : (p : Place) (e : Entry L) → StandsAt t p e
          → Fits r e.label × (r.cell e.label ≡ p.cell)
      pub origins : HasOrigins t
      pub labels : HasLabels t
      pub links : HasLinks t
      pub apart : IsApart t
