-- What a search tells where it stops at a limit.
use Rattle.std.specs.Prelude.{◌≡◌, ◌⊎◌, ℕ, ◌==◌, if◌then◌else◌, ℤ, ◌≤ℤ◌, Option, None, Some, IfSome, List, map, option_map, All}
use Rattle.route_model.specs.declared.plan.Plan.{Plan}
use Rattle.route_model.specs.Costs.{least_box_cost}
use Rattle.route_model.specs.Parts.{ModelParts}
use Rattle.route_model.specs.Quantities.{cost_of}
use Rattle.route_model.specs.Solution.{IsSolution}
use Rattle.route_model.specs.Tidy.{IsTidy}
use Rattle.proof_rules.specs.Nodes.{Node as NodeSaid}
use Rattle.proof_rules.specs.NodeWalls.{IsNodeWall, IsOpenBound}
use Rattle.certificate.specs.declared.cert.Node.{Node}
use Rattle.certificate.specs.declared.cert.NodeForm.TheVariants as node
use Rattle.cert_rules.specs.Meaning.{node_of}
use Rattle.solve_run.specs.declared.outcome.Best.{Best}

-- the best plan is a tidy solution, and this is its cost
pub record IsBestPlan (m : ModelParts) (b : Best) : Type 0 where
  pub solution : IsSolution m b.plan
  pub tidy : IsTidy b.plan
  pub costs : cost_of m b.plan ≡ b.cost

-- no solution costs less than the bound, which lies between the least cost over the boxes of the variables and the cost of the
-- best plan
pub record IsBoundBeside (m : ModelParts) (best : Option Best) (bound : ℤ) : Type 0 where
  pub best_is : IfSome best (IsBestPlan m)
  pub holds : (plan : Plan) → IsSolution m plan → bound ≤ℤ cost_of m plan
  pub least : least_box_cost m ≤ℤ bound
  pub most : IfSome best (λ (b : Best). bound ≤ℤ b.cost)

-- a made node has the line 1; an open place has the line 0, and the form of a point, which means nothing
abbrev pub IsWallLine : Node → Type 0
IsWallLine n = (n.line ≡ 1) ⊎ ((n.line ≡ 0) × (n.form ≡ node.Point))

abbrev pub node_said : ModelParts → Node → Option NodeSaid
node_said m n = if n.line == 0 then None else Some (node_of m n.form)

abbrev pub nodes_said : ModelParts → List Node → List (Option NodeSaid)
nodes_said m nodes = map (node_said m) nodes

abbrev pub plan_in : Option Best → Option Plan
plan_in best = option_map (λ (b : Best). b.plan) best

-- so many nodes of a proof tree were made, each of which was needed, some place is open, and the bound is exactly that of the open
-- places and the best plan
pub record IsStoppedTree (m : ModelParts) (limit : ℕ) (best : Option Best) (nodes : List Node) (bound : ℤ) : Type 0 where
  pub lines : All IsWallLine nodes
  pub z : ℤ
  pub wall : IsNodeWall m limit (plan_in best) z (nodes_said m nodes)
  pub open_bound : IsOpenBound m (plan_in best) z (nodes_said m nodes) bound
