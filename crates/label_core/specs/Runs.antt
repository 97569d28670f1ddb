-- Runs of the label machine.
use Rattle.std.specs.Prelude.{◌≡◌, ℕ, ◌≤◌, List, [], ◌∷◌}
use Rattle.label_space.specs.Rules.{Rules}
use Rattle.label_core.specs.Tables.{HasKept}
use Rattle.label_core.specs.Fates.{IsFinished}
use Rattle.label_core.specs.Closed.{IsClosed, RepresentsAll}
use Rattle.label_core.specs.declared.machine.Core.{Core}
use Rattle.label_core.specs.declared.machine.Event.{Event}
use Rattle.label_core.specs.Steps.{Steps, opened}
use Rattle.label_core.specs.Rule.{IsRuled}

module _ {L : Type 0} (r : Rules L) where
  -- the events are legal, one after the other, and make y of x
  abbrev pub Runs : Core L → List (Event L) → Core L → Type 0
  Runs x [] y = y ≡ x
  Runs x (e ∷ es) y = (z : Core L) × Steps r x e z × Runs z es y

  -- every run from the opening state meets the rule, and where no kept entry is Fresh or
  -- Claimed at its end, the kept labels are closed and represent every list of choices
  abbrev pub KeepsRule : Type 0
  KeepsRule = (limit weight : ℕ) → 1 ≤ limit → 1 ≤ weight → (es : List (Event L)) (y : Core L)
      → Runs (opened r limit weight) es y → IsRuled r y
      × (IsFinished y.table.cells
      → IsClosed r (HasKept y.table.cells) × RepresentsAll r (HasKept y.table.cells))
