use Rattle.std.proofs.Common.{ℕ, ◌<◌, get_or}
use Rattle.route_labels.specs.Meaning.{setting_of}
use Rattle.list_check.specs.declared.nodes.Node.{Node}
use Rattle.list_check.specs.Nodes.{HasStep}
use Rattle.list_check.proofs.complete.all_have_steps.Given as goal

abbrev pub invariant-loop-number : goal.invariant-loop-number
invariant-loop-number l =
    (k a : ℕ) (other : Node) → k < l.number → HasStep (setting_of l.field) l.rests.labels.now l.rests.limit l.lines k (get_or l.nodes k other) a
