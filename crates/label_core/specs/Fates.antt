-- What became of the extensions of entries that are done.
use Rattle.std.specs.Prelude.{◌≡◌, ℕ, None, Some, List, length, slice_get}
use Rattle.label_space.specs.Rules.{Rules, Dominates, Extends}
use Rattle.label_core.specs.declared.table.Place.{Place}
use Rattle.label_core.specs.declared.table.Fate.{Fate}
use Rattle.label_core.specs.declared.table.Fate.TheVariants.{Void, At}
use Rattle.label_core.specs.declared.table.Turn.TheVariants.{Done}
use Rattle.label_core.specs.declared.table.Entry.{Entry}
use Rattle.label_core.specs.Tables.{Cells, StandsAt, IsKept}

module _ {L : Type 0} where
  -- the entry has a fate for each of its choices
  abbrev pub IsDone : Entry L → Type 0
  IsDone e = (fates : List Fate) × (e.turn ≡ Done fates)

  -- no kept entry is fresh or claimed
  abbrev pub IsFinished : Cells L → Type 0
  IsFinished t = (p : Place) (e : Entry L) → StandsAt t p e → IsKept e → IsDone e

  module _ (r : Rules L) where
    -- the fate of the extension of l over k: it is refused, or the entry named dominates it
    abbrev pub IsLegal : Cells L → L → ℕ → Fate → Type 0
    IsLegal t l k Void = r.extend l k ≡ None
    IsLegal t l k (At q) = (m : L) × Extends r l k m
        × (d : Entry L) × StandsAt t q d × Dominates r d.label m

    -- each fate is legal, the first for the choice 0
    abbrev pub AreLegal : Cells L → L → List Fate → Type 0
    AreLegal t l fates = (k : ℕ) (f : Fate) → slice_get fates k ≡ Some f → IsLegal t l k f

    -- each entry that is done has one legal fate for each of its choices
    abbrev pub HasFates : Cells L → Type 0
    HasFates t = (p : Place) (e : Entry L) (fates : List Fate) → StandsAt t p e
        → e.turn ≡ Done fates → (length fates ≡ r.degree e.label) × AreLegal t e.label fates
