use Rattle.std.proofs.Common.{◌≡◌, ◌≤◌, take, length}
use Rattle.open_tree.specs.Open.{mades}
use Rattle.open_tree.proofs.slots.made_count.Given as goal

abbrev pub invariant-loop-slot : goal.invariant-loop-slot
invariant-loop-slot g l = record { same : l.count ≡ length (mades (take l.slot-index l.slots)); few : l.count ≤ l.slot-index }
