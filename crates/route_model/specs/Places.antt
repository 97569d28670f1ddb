-- Places of a search: boxes of variables and of path counts, and arcs that are dropped; shut arcs, and the solutions of
-- a place.
use Rattle.std.specs.Prelude.{◌≡◌, ℕ, ℤ, pos, int_le, ◌≤ℤ◌, Bool, false, ◌||◌, List, [], length, map, All, slice_index_or}
use Rattle.std.specs.List.{list_any}
use Rattle.path_graph.specs.Walk.{GraphParts}
use Rattle.route_model.specs.declared.parts.Var.{Var}
use Rattle.route_model.specs.declared.places.Boxes.{Boxes}
use Rattle.route_model.specs.declared.places.Span.{Span}
use Rattle.route_model.specs.declared.places.Spot.{Spot}
use Rattle.route_model.specs.declared.plan.Plan.{Plan}
use Rattle.path_graph.specs.First.{EachBelow}
use Rattle.route_model.specs.Parts.{ModelParts, graph_in, mapped_vars, taken_at, var_at}
use Rattle.route_model.specs.Quantities.{paths_of, value_of}
use Rattle.route_model.specs.Solution.{IsSolution}

-- boxes by number; nothing is said of a number past the end
abbrev pub span_at : List Span → ℕ → Span
span_at spans k = slice_index_or spans k (record { low = pos 0; high = pos 0 })

-- the number lies in the box
abbrev pub IsInSpan : Span → ℤ → Type 0
IsInSpan span x = (span.low ≤ℤ x) × (x ≤ℤ span.high)

-- the box has no number above 0
abbrev pub ends_at_zero : Span → Bool
ends_at_zero span = int_le span.high (pos 0)

-- the boxes of the model itself
abbrev pub var_span : Var → Span
var_span v = record { low = v.low; high = v.high }

abbrev pub path_span : GraphParts → Span
path_span g = record { low = pos g.ends.low; high = pos g.ends.high }

-- a box is not empty, and lies within another
abbrev pub IsPartOf : Span → Span → Type 0
IsPartOf whole span = (whole.low ≤ℤ span.low) × (span.low ≤ℤ span.high) × (span.high ≤ℤ whole.high)

-- one box for each variable and path count, none empty or outside the model's
pub record BoxesFit (m : ModelParts) (boxes : Boxes) : Type 0 where
  pub vars : length boxes.vars ≡ length m.vars
  pub paths : length boxes.paths ≡ length m.graphs
  pub each_var : EachBelow (length m.vars) (λ j. IsPartOf (var_span (var_at m.vars j)) (span_at boxes.vars j))
  pub each_path : EachBelow (length m.graphs) (λ g. IsPartOf (path_span (graph_in m.graphs g)) (span_at boxes.paths g))

-- the marks of the arcs of a graph, and whether an arc is dropped
abbrev pub marks_of : List (List Bool) → ℕ → List Bool
marks_of fixed g = slice_index_or fixed g []

abbrev pub is_dropped : Spot → ℕ → ℕ → Bool
is_dropped spot g a = slice_index_or (marks_of spot.fixed g) a false

-- one mark for each arc of each graph
pub record MarksFit (m : ModelParts) (fixed : List (List Bool)) : Type 0 where
  pub graphs : length fixed ≡ length m.graphs
  pub arcs : EachBelow (length m.graphs) (λ g. length (marks_of fixed g) ≡ length (graph_in m.graphs g).arcs)

-- one box for each variable and path count, and one mark for each arc
pub record IsSpotOf (m : ModelParts) (spot : Spot) : Type 0 where
  pub vars : length spot.boxes.vars ≡ length m.vars
  pub paths : length spot.boxes.paths ≡ length m.graphs
  pub marks : MarksFit m spot.fixed

-- a place of the model: no box is empty or outside the model's
pub record SpotFits (m : ModelParts) (spot : Spot) : Type 0 where
  pub boxes : BoxesFit m spot.boxes
  pub marks : MarksFit m spot.fixed

-- the place with the boxes of the model, where no arc is dropped
abbrev pub root_place : ModelParts → Spot
root_place m = record {
  boxes = record { vars = map var_span m.vars; paths = map path_span m.graphs };
  fixed = map (λ g. map (λ arc. false) g.arcs) m.graphs;
}

-- an arc is shut: it is dropped, or maps a variable whose box ends at 0, or its graph's path count ends at 0
abbrev pub shut_at : ModelParts → Spot → ℕ → ℕ → Bool
shut_at m spot g a =
    is_dropped spot g a
    || (list_any (λ j. ends_at_zero (span_at spot.boxes.vars j)) (mapped_vars m.maps g a) || ends_at_zero (span_at spot.boxes.paths g))

-- a solution within the boxes
pub record SolvesWithin (m : ModelParts) (boxes : Boxes) (plan : Plan) : Type 0 where
  pub solution : IsSolution m plan
  pub vars : EachBelow (length m.vars) (λ j. IsInSpan (span_at boxes.vars j) (pos (value_of m plan j)))
  pub paths : EachBelow (length m.graphs) (λ g. IsInSpan (span_at boxes.paths g) (pos (paths_of plan g)))

-- no arc of a path of the plan passes the test, which goes by graph and arc
abbrev pub UsesNone : (ℕ → ℕ → Bool) → Plan → Type 0
UsesNone test plan = EachBelow (length plan.paths) (λ i. All (λ a. test (taken_at plan.paths i).graph a ≡ false) (taken_at plan.paths i).arcs)

-- a solution of the place: within the boxes, and it uses no dropped arc
pub record SolvesAt (m : ModelParts) (spot : Spot) (plan : Plan) : Type 0 where
  pub within : SolvesWithin m spot.boxes plan
  pub kept : UsesNone (is_dropped spot) plan
