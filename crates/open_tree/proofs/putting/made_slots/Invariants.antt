use Rattle.std.proofs.Common.{◌≡◌, []}
use Rattle.open_tree.specs.Open.{slots_of}
use Rattle.open_tree.proofs.putting.made_slots.Given as goal

abbrev pub invariant-loop-node : goal.invariant-loop-node
invariant-loop-node g l = l.slots.items ≡ slots_of l.yielded []
