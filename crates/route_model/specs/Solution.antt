-- Plans that are solutions of a model, least ones, and models that have none.
use Rattle.std.specs.Prelude.{ℕ, ◌<◌, ◌≤◌, ℤ, pos, ◌≤ℤ◌, List, length, Option, IfSome}
use Rattle.path_graph.specs.Walk.{GraphParts, IsFeasibleWalk}
use Rattle.path_graph.specs.First.{EachBelow}
use Rattle.route_model.specs.declared.plan.Taken.{Taken}
use Rattle.route_model.specs.declared.plan.Plan.{Plan}
use Rattle.route_model.specs.Parts.{ModelParts, graph_in, graph_at, var_at, row_at, taken_at}
use Rattle.route_model.specs.Quantities.{paths_of, visits_of, value_of, row_sum, cost_of}

-- a path: a feasible walk of a graph of the model, taken at least once
pub record IsPath (m : ModelParts) (t : Taken) : Type 0 where
  pub graph : t.graph < length m.graphs
  pub count : 1 ≤ t.count
  pub walk : IsFeasibleWalk (graph_at m t.graph) t.arcs

-- each path of the plan is one
abbrev pub ArePaths : ModelParts → Plan → Type 0
ArePaths m plan = EachBelow (length plan.paths) (λ i. IsPath m (taken_at plan.paths i))

-- the paths of a graph are within its bounds
abbrev pub CountFits : List GraphParts → Plan → ℕ → Type 0
CountFits graphs plan g = ((graph_in graphs g).ends.low ≤ paths_of plan g) × (paths_of plan g ≤ (graph_in graphs g).ends.high)

-- a packing set is visited at most once in all
abbrev pub SetFits : ModelParts → Plan → ℕ → Type 0
SetFits m plan s = visits_of m plan s ≤ 1

-- a variable lies in its box
abbrev pub InBox : ModelParts → Plan → ℕ → Type 0
InBox m plan j = ((var_at m.vars j).low ≤ℤ pos (value_of m plan j)) × (pos (value_of m plan j) ≤ℤ (var_at m.vars j).high)

-- a number lies within the sides that are not open
abbrev pub IsBetween : Option ℤ → Option ℤ → ℤ → Type 0
IsBetween low high x = IfSome low (λ l. l ≤ℤ x) × IfSome high (λ h. x ≤ℤ h)

-- the sum of a row lies within its sides
abbrev pub RowHolds : ModelParts → Plan → ℕ → Type 0
RowHolds m plan i = IsBetween (row_at m.rows i).low (row_at m.rows i).high (row_sum m plan (row_at m.rows i).terms)

pub record IsSolution (m : ModelParts) (plan : Plan) : Type 0 where
  pub paths : ArePaths m plan
  pub counts : EachBelow (length m.graphs) (CountFits m.graphs plan)
  pub sets : EachBelow m.sets (SetFits m plan)
  pub vars : EachBelow (length m.vars) (InBox m plan)
  pub rows : EachBelow (length m.rows) (RowHolds m plan)

-- a solution, and no solution costs less
pub record IsLeast (m : ModelParts) (plan : Plan) : Type 0 where
  pub solution : IsSolution m plan
  pub least : (other : Plan) → IsSolution m other → cost_of m plan ≤ℤ cost_of m other

abbrev pub HasNoSolution : ModelParts → Type 0
HasNoSolution m = (plan : Plan) → IsSolution m plan → ⊥
