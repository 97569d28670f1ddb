use Rattle.std.proofs.Common.{◌≢◌, ℕ, ◌<◌, slice_index}
use Rattle.path_graph.specs.Parts.{arcs_from}
use Rattle.list_check.proofs.nodes.place_of.Given as goal

abbrev pub invariant-loop-place : goal.invariant-loop-place
invariant-loop-place l = (k : ℕ) → k < l.place → slice_index (arcs_from l.graph.arcs l.vertex) k ≢ l.arc
