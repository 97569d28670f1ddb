-- Trees over the counts of listed walks, while they grow.
use Rattle.std.specs.Prelude.{◌≡◌, ℕ, ◌≤◌, ◌⊎◌, ℤ, Option, None, List, [], ◌∷◌, length, map, reverse, All}
use Rattle.route_model.specs.declared.places.Span.{Span}
use Rattle.route_model.specs.declared.places.Spot.{Spot}
use Rattle.route_model.specs.declared.plan.Plan.{Plan}
use Rattle.route_model.specs.Parts.{ModelParts}
use Rattle.proof_rules.specs.Counts.{Walk}
use Rattle.proof_rules.specs.Grows.{Grows}
use Rattle.proof_rules.specs.Nodes.{AtCounts}
use Rattle.proof_rules.specs.OpenTrees.{Valued}
use Rattle.cert_check.specs.Reads.{CountsFit}
use Rattle.made_nodes.specs.declared.node.MadeNode.{MadeNode}
use Rattle.made_nodes.specs.Better.{IsBetter}
use Rattle.made_nodes.specs.Made.{StaysOpen, made_rules}
use Rattle.count_trees.specs.declared.growth.CountGrowth.{CountGrowth}

-- counts in boxes, with a value; and those that are open, of which the last is taken next
abbrev pub at_counts : Spot → List Walk → ℤ → List Span → Valued
at_counts spot walks value boxes = record { item = AtCounts spot walks boxes; value = value }

abbrev pub open_counts : Spot → List Walk → ℤ → List (List Span) → List Valued
open_counts spot walks value rest = map (at_counts spot walks value) (reverse rest)

-- the nodes grow from the first boxes, with any value, against the cost to beat, and leave the counts that are open; without
-- a better plan each stays open against the cost to beat at first
pub record IsGrown (m : ModelParts) (spot : Spot) (walks : List Walk) (boxes : List Span) (z : ℤ) (nodes : List MadeNode) (rest : List (List Span)) (less : ℤ) (best : Option Plan) : Type 0 where
  pub grows : (value : ℤ) → Grows (made_rules m less) (at_counts spot walks value boxes ∷ []) nodes (open_counts spot walks value rest)
  pub better : IsBetter m z best less
  pub stay : best ≡ None → All (StaysOpen z) nodes
  pub fit : All (CountsFit m spot walks) rest

-- so many nodes at most, and no counts are open where there are fewer
pub record IsCountGrowth (m : ModelParts) (spot : Spot) (walks : List Walk) (boxes : List Span) (z : ℤ) (budget : ℕ) (g : CountGrowth) : Type 0 where
  pub grows : (value : ℤ) → Grows (made_rules m g.z) (at_counts spot walks value boxes ∷ []) g.nodes.items (open_counts spot walks value g.rest.items)
  pub better : IsBetter m z g.best g.z
  pub stay : g.best ≡ None → All (StaysOpen z) g.nodes.items
  pub fit : All (CountsFit m spot walks) g.rest.items
  pub few : length g.nodes.items ≤ budget
  pub ended : (g.rest.items ≡ []) ⊎ (length g.nodes.items ≡ budget)
