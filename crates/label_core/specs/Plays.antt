-- What it means that an event or a list of events was played.
use Rattle.std.specs.Prelude.{◌≡◌, ℕ, Option, Some, List, take, slice_get, MatchOption}
use Rattle.label_core.specs.Tables.{Cells, HasKept}
use Rattle.label_core.specs.Fates.{IsFinished}
use Rattle.label_core.specs.Closed.{IsClosed, RepresentsAll}
use Rattle.label_space.specs.Rules.{Rules}
use Rattle.label_core.specs.declared.machine.PassState.{PassState}
use Rattle.label_core.specs.declared.machine.Core.{Core}
use Rattle.label_core.specs.declared.machine.Event.{Event}
use Rattle.label_core.specs.Steps.{LivesAt, HoldsAt, Steps}
use Rattle.label_core.specs.Runs.{Runs}

module _ {L : Type 0} where
  -- no pass at p lives
  abbrev pub LivesNot : Core L → ℕ → Type 0
  LivesNot x p = (s : PassState) → LivesAt x p s → ⊥

  -- no pass at p holds a cell
  abbrev pub HoldsNot : Core L → ℕ → Type 0
  HoldsNot x p = (s : PassState) (c : ℕ) → HoldsAt x p s c → ⊥

  -- what an event makes of a core, or none where it is not legal
  abbrev pub Decides : (Core L → Type 0) → Option (Core L) → Type 0
  Decides Makes o = MatchOption o ((y : Core L) → Makes y → ⊥) (λ y. Makes y)

  module _ (r : Rules L) where
    -- where no kept entry is Fresh or Claimed, the kept labels are closed and represent every list of choices
    abbrev pub IsClosedAtEnd : Cells L → Type 0
    IsClosedAtEnd t = IsFinished t → IsClosed r (HasKept t) × RepresentsAll r (HasKept t)

    -- the event is not legal in x
    abbrev pub IsIllegal : Core L → Event L → Type 0
    IsIllegal x e = (y : Core L) → Steps r x e y → ⊥

    -- the first event that is not legal, after those before it were played, is the one at i
    abbrev pub IsFirstIllegal : Core L → List (Event L) → ℕ → Type 0
    IsFirstIllegal x es i = (y : Core L) × Runs r x (take i es) y
        × (e : Event L) × (slice_get es i ≡ Some e) × IsIllegal y e
