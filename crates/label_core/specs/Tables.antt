-- Tables of labels: which entry stands where.
use Rattle.std.specs.Prelude.{◌≡◌, ℕ, Some, None, List, [], length, sum_by, slice_index_or, slice_get}
use Rattle.label_core.specs.declared.table.Place.{Place}
use Rattle.label_core.specs.declared.table.Entry.{Entry}

-- the entries of each cell
abbrev pub Cells : Type 0 → Type 0
Cells L = List (List (Entry L))

-- the place with this index in this cell
abbrev pub place : ℕ → ℕ → Place
place c i = record { cell = c; index = i }

module _ {L : Type 0} where
  -- the entries of the cell c
  abbrev pub entries_of : Cells L → ℕ → List (Entry L)
  entries_of t c = slice_index_or t c []

  -- the entry e stands at the place p
  abbrev pub StandsAt : Cells L → Place → Entry L → Type 0
  StandsAt t p e = slice_get (entries_of t p.cell) p.index ≡ Some e

  -- the entry is not gone
  abbrev pub IsKept : Entry L → Type 0
  IsKept e = e.gone ≡ None

  -- the label is that of a kept entry
  abbrev pub HasKept : Cells L → L → Type 0
  HasKept t l = (p : Place) × (e : Entry L) × StandsAt t p e × IsKept e × (e.label ≡ l)

  -- how many entries there are
  abbrev pub entry_count : Cells L → ℕ
  entry_count t = sum_by length t
