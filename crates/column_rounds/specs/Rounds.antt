-- What is known between two rounds of column generation.
use Rattle.std.specs.Prelude.{◌≡◌, ◌≤◌, ℤ, Option, None, Some, [], IfSome, length}
use Rattle.route_model.specs.Fit.{ModelFits}
use Rattle.route_model.specs.Parts.{ModelParts}
use Rattle.route_model.specs.Places.{SpotFits}
use Rattle.ng_sets.specs.Near.{FitsGraphs}
use Rattle.multipliers.specs.Ranges.{MultFits}
use Rattle.column_rounds.specs.declared.found.FoundPlan.{FoundPlan}
use Rattle.column_rounds.specs.declared.rounds.Step.{Step}
use Rattle.column_rounds.specs.declared.rounds.Step.TheVariants.{Ends, Goes}
use Rattle.column_rounds.specs.declared.state.State.{State}
use Rattle.column_rounds.specs.declared.task.Task.{Task}
use Rattle.column_rounds.specs.Found.{IsPlanBelow}
use Rattle.column_rounds.specs.Masters.{row_count}

-- the place is one of the model, and a table may have a label
pub record TaskFits (t : Task) : Type 0 where
  pub model : ModelFits t.model.now
  pub spot : SpotFits t.model.now t.spot.now
  pub some : 1 ≤ t.limit

-- the cost to beat: that of the plan that was found, or as it was at first
abbrev pub cost_to_beat : ℤ → Option FoundPlan → ℤ
cost_to_beat first None = first
cost_to_beat first (Some found) = found.cost

-- near lists for the graphs, multipliers in their ranges, none of a cut, a value for each row, and a plan below the first cost to beat
pub record IsState (m : ModelParts) (s : State) : Type 0 where
  pub near : FitsGraphs s.near m.graphs
  pub mult : MultFits m s.mult
  pub no_cuts : s.mult.cuts ≡ []
  pub values : length s.values.items ≡ row_count m
  pub best : IfSome s.best (IsPlanBelow m s.first)

-- with this first cost to beat
pub record IsStateFrom (m : ModelParts) (first : ℤ) (s : State) : Type 0 where
  pub state : IsState m s
  pub same : s.first ≡ first

abbrev pub IsStep : ModelParts → ℤ → Step → Type 0
IsStep m first (Goes s) = IsStateFrom m first s
IsStep m first (Ends s) = IsStateFrom m first s
