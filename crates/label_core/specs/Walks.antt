-- Walks: lists of choices from the root, and those over which the entries of a table came.
use Rattle.std.specs.Prelude.{◌≡◌, ℕ, Some, None, List, [], ◌∷◌, reverse}
use Rattle.label_space.specs.Rules.{Rules, Extends}
use Rattle.label_core.specs.declared.table.Place.{Place}
use Rattle.label_core.specs.declared.table.Origin.{Origin}
use Rattle.label_core.specs.declared.table.Entry.{Entry}
use Rattle.label_core.specs.Tables.{Cells, StandsAt}

-- the origin with this parent and this arc
abbrev pub origin : Place → ℕ → Origin
origin q k = record { parent = q; arc = k }

module _ {L : Type 0} where
  -- the choices lead from l to m, each extension defined
  abbrev pub Reaches : Rules L → L → List ℕ → L → Type 0
  Reaches r l [] m = l ≡ m
  Reaches r l (k ∷ rest) m = (n : L) × Extends r l k n × Reaches r n rest m

  -- the origins lead from p back over these arcs, the last one first, to an entry without origin
  abbrev pub LeadsBack : Cells L → Place → List ℕ → Type 0
  LeadsBack t p [] = (e : Entry L) × StandsAt t p e × (e.origin ≡ None)
  LeadsBack t p (k ∷ arcs) = (e : Entry L) × StandsAt t p e × (q : Place)
      × (e.origin ≡ Some (origin q k)) × LeadsBack t q arcs

  -- the arcs are the partial walk of the entry at p: those of the origins, from the root on
  abbrev pub IsWalkOf : Cells L → Place → List ℕ → Type 0
  IsWalkOf t p arcs = LeadsBack t p (reverse arcs)

  -- The origins of each entry lead back, and no two are the same: the root alone has none
  pub record HasOrigins (t : Cells L) : Type 0 where
    pub lead_back : (p : Place) (e : Entry L) → StandsAt t p e
        → (arcs : List ℕ) × LeadsBack t p arcs
    pub differ : (p q : Place) (e d : Entry L) → StandsAt t p e → StandsAt t q d
        → e.origin ≡ d.origin → p ≡ q

  -- Each entry has the label that a partial walk leads to, and no two have the same partial walk
  pub record AreDifferentWalks (r : Rules L) (t : Cells L) : Type 0 where
    pub walk : (p : Place) (e : Entry L) → StandsAt t p e
        → (arcs : List ℕ) × IsWalkOf t p arcs × Reaches r r.root arcs e.label
    pub differ : (p q : Place) (arcs : List ℕ) → IsWalkOf t p arcs → IsWalkOf t q arcs → p ≡ q
