-- What holds while a table is being filled.
use Rattle.std.specs.Prelude.{◌≡◌, ◌≢◌, ℕ, ◌<◌, ◌≤◌, ◌⊎◌, Some, List, length, slice_get}
use Rattle.label_space.specs.Rules.{Rules}
use Rattle.label_core.specs.declared.table.Place.{Place}
use Rattle.label_core.specs.declared.table.Origin.{Origin}
use Rattle.label_core.specs.declared.table.Fate.{Fate}
use Rattle.label_core.specs.declared.table.Turn.TheVariants.{Fresh}
use Rattle.label_core.specs.declared.table.Entry.{Entry}
use Rattle.label_core.specs.Tables.{Cells, StandsAt, IsKept, entry_count}
use Rattle.label_core.specs.Points.{IsSound}
use Rattle.label_core.specs.Fates.{IsDone, HasFates, AreLegal}
use Rattle.plain_table.specs.declared.filling.Filling.{Filling}
use Rattle.plain_table.specs.Outcomes.{IsFull}

-- the place has its turn at this index of the order or later
abbrev pub Waits : List Place → ℕ → Place → Type 0
Waits order next p = (i : ℕ) × (next ≤ i) × (slice_get order i ≡ Some p)

module _ {L : Type 0} where
  -- the entry at p is no parent
  abbrev pub IsChildless : Cells L → Place → Type 0
  IsChildless t p = (q : Place) (d : Entry L) (o : Origin) → StandsAt t q d → d.origin ≡ Some o
      → o.parent ≢ p

  -- the entry e at p is done, or it is fresh, no parent, and waits for its turn if it is kept
  abbrev pub IsInTurn : Cells L → List Place → ℕ → Place → Entry L → Type 0
  IsInTurn t order next p e = IsDone e
      ⊎ ((e.turn ≡ Fresh) × IsChildless t p × (IsKept e → Waits order next p))

  -- the entry is kept and fresh, and l is its label
  abbrev pub IsToExtend : Entry L → L → Type 0
  IsToExtend e l = (e.label ≡ l) × (e.turn ≡ Fresh) × IsKept e

  -- the entry is gone or is not fresh
  abbrev pub IsNotToExtend : Entry L → Type 0
  IsNotToExtend e = IsKept e → e.turn ≢ Fresh

  module _ (r : Rules L) (limit : ℕ) where
    -- The table is sound, the order has each entry's place once, and there are not too many
    pub record IsSteady (t : Cells L) (order : List Place) : Type 0 where
      pub sound : IsSound r t
      pub fates : HasFates r t
      pub counted : entry_count t ≡ length order
      pub few : length order ≤ limit
      pub placed : (i : ℕ) (p : Place) → slice_get order i ≡ Some p → (e : Entry L) × StandsAt t p e

    -- Between two turns: each entry is done or waits
    pub record Fills (t : Cells L) (order : List Place) (next : ℕ) : Type 0 where
      pub steady : IsSteady t order
      pub reached : next ≤ length order
      pub turns : (p : Place) (e : Entry L) → StandsAt t p e → IsInTurn t order next p e

    -- Within the turn of the entry at p, whose label is l: it has these fates so far, and is the
    -- parent over no further choice
    pub record Extending (t : Cells L) (order : List Place) (next : ℕ)
        (p : Place) (l : L) (fates : List Fate) : Type 0 where
      pub steady : IsSteady t order
      pub reached : next ≤ length order
      pub here : (e : Entry L) × StandsAt t p e × (e.label ≡ l)
      pub others : (q : Place) (e : Entry L) → StandsAt t q e → q ≢ p → IsInTurn t order next q e
      pub children : (q : Place) (d : Entry L) (o : Origin) → StandsAt t q d → d.origin ≡ Some o
          → o.parent ≡ p → o.arc < length fates
      pub legal : AreLegal r t l fates

    -- The limit is reached, and there is one label more
    pub record AtWall (t : Cells L) : Type 0 where
      pub sound : IsSound r t
      pub fates : HasFates r t
      pub full : IsFull r limit t

    -- the table is between two turns
    abbrev pub IsFilling : Filling L → Type 0
    IsFilling f = Fills f.cells.items f.order.items f.next

    -- the table is within the turn of the entry at p
    abbrev pub IsExtending : Place → L → List Fate → Filling L → Type 0
    IsExtending p l fates f = Extending f.cells.items f.order.items f.next p l fates

    -- the table has come upon the limit
    abbrev pub IsAtWall : Filling L → Type 0
    IsAtWall f = AtWall f.cells.items
