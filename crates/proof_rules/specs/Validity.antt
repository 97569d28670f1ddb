-- Valid certificates, and what one proves.
use Rattle.std.specs.Prelude.{◌≡◌, ℤ, List, [], ◌∷◌}
use Rattle.route_model.specs.declared.plan.Plan.{Plan}
use Rattle.route_model.specs.Costs.{cost_above_all}
use Rattle.route_model.specs.Parts.{ModelParts}
use Rattle.route_model.specs.Places.{root_place}
use Rattle.route_model.specs.Quantities.{cost_of}
use Rattle.route_model.specs.Solution.{HasNoSolution, IsLeast, IsSolution}
use Rattle.proof_rules.specs.Grows.{Grows}
use Rattle.proof_rules.specs.Nodes.{AtPlace, Node, node_rules}

-- a proof tree against z: its nodes, each before those below it, stand at the root place and leave nothing open
abbrev pub IsProofTree : ModelParts → ℤ → List Node → Type 0
IsProofTree m z nodes = Grows (node_rules m z) (AtPlace (root_place m) ∷ []) nodes []

-- what a certificate claims: a least cost, with a plan, or that there is no solution
pub data Claim : Type 0 where
  Optimal : ℤ → Plan → Claim
  Infeasible : Claim

pub record Certificate : Type 0 where
  pub claim : Claim
  pub nodes : List Node

-- a plan that is a solution of the cost, and a proof tree against the cost
pub record IsOptimalBy (m : ModelParts) (cost : ℤ) (plan : Plan) (nodes : List Node) : Type 0 where
  pub solution : IsSolution m plan
  pub is : cost_of m plan ≡ cost
  pub tree : IsProofTree m cost nodes

-- without a solution, a proof tree against the greatest cost over the boxes of the variables, plus 1
abbrev pub Supports : ModelParts → List Node → Claim → Type 0
Supports m nodes (Optimal cost plan) = IsOptimalBy m cost plan nodes
Supports m nodes Infeasible = IsProofTree m (cost_above_all m) nodes

abbrev pub IsValid : ModelParts → Certificate → Type 0
IsValid m c = Supports m c.nodes c.claim

-- what the claim says
abbrev pub Holds : ModelParts → Claim → Type 0
Holds m (Optimal cost plan) = IsLeast m plan × (cost_of m plan ≡ cost)
Holds m Infeasible = HasNoSolution m
