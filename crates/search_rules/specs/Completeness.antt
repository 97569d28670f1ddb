-- Lists that contain all feasible walks of a model, lists of walks that are cut off, and a number of nodes that is enough.
use Rattle.std.specs.Prelude.{◌≡◌, ℕ, suc, ◌+◌, ◌*◌, ◌<◌, ℤ, pos, ◌+ℤ◌, ◌-ℤ◌, ◌≤ℤ◌, List, [], ◌∷◌, length, sum_by, unsigned_abs, Contains}
use Rattle.std.specs.Int.{int_max}
use Rattle.path_graph.specs.declared.parts.Values.{Values}
use Rattle.path_graph.specs.First.{EachBelow}
use Rattle.path_graph.specs.Rest.{HasBackward}
use Rattle.path_graph.specs.Walk.{GraphParts, IsFeasibleWalk, Leads, Passes, root_of}
use Rattle.route_model.specs.declared.places.Span.{Span}
use Rattle.route_model.specs.declared.places.Spot.{Spot}
use Rattle.route_model.specs.Parts.{ModelParts, graph_in}
use Rattle.route_model.specs.Places.{SpotFits, root_place}
use Rattle.proof_rules.specs.Counts.{Walk}
use Rattle.proof_rules.specs.ListWalls.{IsDemandedTree, IsUnfinished, OfGraph}
use Rattle.proof_rules.specs.PrefixTrees.{Step}
use Rattle.proof_rules.specs.Proofs.{AreBoth, IsProof, Proof}

-- the graph of a walk, and that it is one of the model
abbrev pub graph_of : ModelParts → Walk → GraphParts
graph_of m w = graph_in m.graphs w.graph

abbrev pub HasGraph : ModelParts → Walk → Type 0
HasGraph m w = w.graph < length m.graphs

-- a feasible partial walk: from the source to some vertex, and no window refuses it; the empty one is one
pub record IsPartialWalk (m : ModelParts) (w : Walk) : Type 0 where
  pub there : HasGraph m w
  pub ends : ℕ
  pub leads : Leads (graph_of m w) (graph_of m w).ends.source w.arcs ends
  pub passes : Passes (graph_of m w) (root_of (graph_of m w)) w.arcs

-- a rest: from some vertex to the sink, with backward values there; the empty one is one
pub record IsRest (m : ModelParts) (w : Walk) : Type 0 where
  pub there : HasGraph m w
  pub begins : ℕ
  pub leads : Leads (graph_of m w) begins w.arcs (graph_of m w).ends.sink
  pub value : Values
  pub values : HasBackward (graph_of m w) w.arcs value

-- a feasible walk, from the source to the sink
pub record IsWholeWalk (m : ModelParts) (w : Walk) : Type 0 where
  pub there : HasGraph m w
  pub feasible : IsFeasibleWalk (graph_of m w) w.arcs

-- lists that contain all of them
abbrev pub AllPartialWalks : ModelParts → List Walk → Type 0
AllPartialWalks m walks = (w : Walk) → IsPartialWalk m w → Contains walks w

abbrev pub AllRests : ModelParts → List Walk → Type 0
AllRests m walks = (w : Walk) → IsRest m w → Contains walks w

abbrev pub AllWalks : ModelParts → List Walk → Type 0
AllWalks m walks = (w : Walk) → IsWholeWalk m w → Contains walks w

-- at a place, with a proof whose tables are pairs of whole lists, the trees of the graphs have exactly so many lines, each
-- over a demanded arc, and some demanded arc leads to no child; the boxes of the variables need be no points
pub record IsCutOffList (m : ModelParts) (limit : ℕ) (spot : Spot) (p : Proof) (z : ℤ) (trees : List (List Step)) : Type 0 where
  pub place : SpotFits m spot
  pub proof : IsProof m spot p
  pub both : AreBoth m p
  pub count : length trees ≡ length m.graphs
  pub each : EachBelow (length m.graphs) (OfGraph IsDemandedTree m spot p z trees)
  pub lines : sum_by length trees ≡ limit
  pub graph : ℕ
  pub there : graph < length m.graphs
  pub unfinished : OfGraph IsUnfinished m spot p z trees graph

-- the product over a list
abbrev pub product_by : {X : Type 0} → (X → ℕ) → List X → ℕ
product_by f [] = 1
product_by f (x ∷ xs) = f x * product_by f xs

-- a box is not empty, and how many whole numbers lie in it
abbrev pub HasPoints : Span → Type 0
HasPoints span = span.low ≤ℤ span.high

abbrev pub points_in : Span → ℕ
points_in span = unsigned_abs (int_max (pos 0) ((span.high -ℤ span.low) +ℤ pos 1))

-- in how many ways boxes can be points: those of the variables and path counts of the model, and those of counts of walks
-- from 0 to the high path counts of their graphs
abbrev pub points_of_boxes : ModelParts → ℕ
points_of_boxes m = product_by points_in (root_place m).boxes.vars * product_by points_in (root_place m).boxes.paths

abbrev pub points_of_counts : ModelParts → List Walk → ℕ
points_of_counts m walks = product_by (λ (w : Walk). suc (graph_of m w).ends.high) walks

-- the arcs of all graphs
abbrev pub arc_total : ModelParts → ℕ
arc_total m = sum_by (λ (g : GraphParts). length g.arcs) m.graphs

-- so many nodes are enough, where the list contains all walks
abbrev pub enough_nodes : ModelParts → List Walk → ℕ
enough_nodes m walks = 2 * points_of_boxes m * points_of_counts m walks + arc_total m
