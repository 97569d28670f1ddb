-- What comes of filling a table.
use Rattle.std.specs.Prelude.{◌≡◌, ◌≢◌, ℕ, ◌≤◌, Some}
use Rattle.label_space.specs.Rules.{Rules, Extends}
use Rattle.label_core.specs.declared.table.Place.{Place}
use Rattle.label_core.specs.declared.table.Entry.{Entry}
use Rattle.label_core.specs.declared.table.Table.{Table}
use Rattle.label_core.specs.Tables.{Cells, StandsAt, HasKept, entries_of, entry_count}
use Rattle.label_core.specs.Walks.{origin, AreDifferentWalks}
use Rattle.label_core.specs.Points.{IsSound}
use Rattle.label_core.specs.Puts.{CoversNot}
use Rattle.label_core.specs.Closed.{IsClosed, RepresentsAll}
use Rattle.label_core.specs.Fates.{IsFinished, HasFates}
use Rattle.plain_table.specs.declared.table.Filled.{Filled}
use Rattle.plain_table.specs.declared.table.Filled.TheVariants.{Closed, Wall, Memory}

module _ {L : Type 0} where
  -- the fact holds of the table, if there is one
  abbrev pub EachTable : Filled L → (Table L → Type 0) → Type 0
  EachTable (Closed t) P = P t
  EachTable (Wall t) P = P t
  EachTable Memory P = Unit {0}

  -- the fact holds of a closed table
  abbrev pub IfClosed : Filled L → (Table L → Type 0) → Type 0
  IfClosed (Closed t) P = P t
  IfClosed (Wall t) P = Unit {0}
  IfClosed Memory P = Unit {0}

  -- the fact holds of a table at the wall
  abbrev pub IfWall : Filled L → (Table L → Type 0) → Type 0
  IfWall (Closed t) P = Unit {0}
  IfWall (Wall t) P = P t
  IfWall Memory P = Unit {0}

  module _ (r : Rules L) where
    -- An entry extends to a label that no kept entry of its cell dominates and that is in no entry
    -- by this origin
    abbrev pub HasOneMore : Cells L → Type 0
    HasOneMore t = (p : Place) × (e : Entry L) × (k : ℕ) × (m : L)
        × StandsAt t p e × Extends r e.label k m
        × CoversNot r (entries_of t (r.cell m)) m
        × ((q : Place) (d : Entry L) → StandsAt t q d → d.origin ≢ Some (origin p k))

    -- Nothing is missing: each kept entry is done, the kept labels are closed, and they represent
    -- every list of choices
    pub record IsWhole (limit : ℕ) (t : Cells L) : Type 0 where
      pub within : entry_count t ≤ limit
      pub finished : IsFinished t
      pub closed : IsClosed r (HasKept t)
      pub represented : RepresentsAll r (HasKept t)

    -- The limit is reached, and there is one label more
    pub record IsFull (limit : ℕ) (t : Cells L) : Type 0 where
      pub made : entry_count t ≡ limit
      pub one_more : HasOneMore t

    -- Each clause of the promise
    pub record IsOutcome (limit : ℕ) (f : Filled L) : Type 0 where
      pub sound : EachTable f (λ t. IsSound r t.cells)
      pub walks : EachTable f (λ t. AreDifferentWalks r t.cells)
      pub fates : EachTable f (λ t. HasFates r t.cells)
      pub closed : IfClosed f (λ t. IsWhole limit t.cells)
      pub wall : IfWall f (λ t. IsFull limit t.cells)
