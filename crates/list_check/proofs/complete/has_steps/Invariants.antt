use Rattle.std.proofs.Common.{ℕ, ◌<◌, slice_index}
use Rattle.path_graph.specs.Parts.{arcs_from}
use Rattle.route_labels.specs.Meaning.{setting_of}
use Rattle.list_check.specs.Nodes.{HasStep}
use Rattle.list_check.proofs.complete.has_steps.Given as goal

abbrev pub invariant-loop-place : goal.invariant-loop-place
invariant-loop-place l =
    (k : ℕ) → k < l.place → HasStep (setting_of l.field) l.rests.labels.now l.rests.limit l.lines l.number l.node (slice_index (arcs_from (setting_of l.field).graph.arcs l.node.label.vertex) k)
