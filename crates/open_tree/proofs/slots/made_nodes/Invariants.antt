use Rattle.std.proofs.Common.{◌≡◌}
use Rattle.open_tree.specs.Open.{mades}
use Rattle.open_tree.proofs.slots.made_nodes.Given as goal

abbrev pub invariant-loop-slot : goal.invariant-loop-slot
invariant-loop-slot g l = l.nodes.items ≡ mades l.yielded
