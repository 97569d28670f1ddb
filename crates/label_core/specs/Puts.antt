-- Changes of a table: an entry is put, with the marks of what it takes away, or one is marked.
use Rattle.std.specs.Prelude.{◌≡◌, ◌≢◌, ℕ, Bool, true, false, cond, ◌&&◌, Option, Some, None, List, [], ◌∷◌, ◌++◌, length, map, replicate, slice_get, slice_set}
use Rattle.label_space.specs.Rules.{Rules, Fits, Dominates, Extends}
use Rattle.label_core.specs.declared.table.Place.{Place}
use Rattle.label_core.specs.declared.table.Origin.{Origin}
use Rattle.label_core.specs.declared.table.Turn.{Turn}
use Rattle.label_core.specs.declared.table.Turn.TheVariants.{Fresh}
use Rattle.label_core.specs.declared.table.Entry.{Entry}
use Rattle.label_core.specs.Tables.{Cells, place, entries_of, StandsAt, IsKept}

-- whether there is no value
abbrev pub is_none : {A : Type 0} → Option A → Bool
is_none None = true
is_none (Some x) = false

module _ {L : Type 0} where
  -- the table with the entry e at the place p
  abbrev pub set_at : Cells L → Place → Entry L → Cells L
  set_at t p e = slice_set t p.cell (slice_set (entries_of t p.cell) p.index e)

  -- the entry, gone by the place q
  abbrev pub gone_by : Place → Entry L → Entry L
  gone_by q e = record e { gone = Some q }

  -- the entry with another turn
  abbrev pub with_turn : Turn → Entry L → Entry L
  with_turn turn e = record e { turn = turn }

  -- a new entry with this label and this origin
  abbrev pub fresh : L → Option Origin → Entry L
  fresh l o = record { label = l; origin = o; turn = Fresh; gone = None }

  module _ (r : Rules L) where
    -- the table with the root alone
    abbrev pub opening : Cells L
    opening = slice_set (replicate r.cells []) (r.cell r.root) (fresh r.root None ∷ [])

    -- what becomes of an entry when one with this label comes to the place q of its cell
    abbrev pub beside : L → Place → Entry L → Entry L
    beside l q e = cond (is_none e.gone && r.dominates l e.label) (gone_by q e) e

    -- the entries of the cell c after a new one has come
    abbrev pub put_into : List (Entry L) → ℕ → Entry L → List (Entry L)
    put_into es c new = map (beside new.label (place c (length es))) es ++ new ∷ []

    -- the table after a new entry has come to the cell c
    abbrev pub put : Cells L → ℕ → Entry L → Cells L
    put t c new = slice_set t c (put_into (entries_of t c) c new)

    -- each entry's label fits
    abbrev pub EachFits : List (Entry L) → Type 0
    EachFits es = (i : ℕ) (e : Entry L) → slice_get es i ≡ Some e → Fits r e.label

    -- the entry at this index is kept and dominates the label
    abbrev pub CoversAt : List (Entry L) → L → ℕ → Type 0
    CoversAt es l i = (e : Entry L) × (slice_get es i ≡ Some e) × IsKept e × Dominates r e.label l

    -- no kept entry dominates the label
    abbrev pub CoversNot : List (Entry L) → L → Type 0
    CoversNot es l = (i : ℕ) (e : Entry L) → slice_get es i ≡ Some e → IsKept e
        → r.dominates e.label l ≡ false

    -- What it takes to put the entry `new`, of the origin o, into its cell
    pub record MayPut (t : Cells L) (new : Entry L) (o : Origin) : Type 0 where
      pub fits : Fits r new.label
      pub kept : IsKept new
      pub origin_is : new.origin ≡ Some o
      pub origin_new : (p : Place) (e : Entry L) → StandsAt t p e → e.origin ≢ Some o
      pub parent : (d : Entry L) × StandsAt t o.parent d × Extends r d.label o.arc new.label
      pub uncovered : CoversNot (entries_of t (r.cell new.label)) new.label

    -- What it takes to mark the entry e at p as gone by d at q
    pub record MayGo (t : Cells L) (p q : Place) (e d : Entry L) : Type 0 where
      pub stands : StandsAt t p e
      pub other : StandsAt t q d
      pub apart : p ≢ q
      pub dominates : Dominates r d.label e.label
      pub kept_here : q.cell ≡ p.cell → IsKept d
