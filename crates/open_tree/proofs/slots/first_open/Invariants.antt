use Rattle.std.proofs.Common.{◌≡◌, [], take}
use Rattle.open_tree.specs.Open.{opens}
use Rattle.open_tree.proofs.slots.first_open.Given as goal

abbrev pub invariant-loop-at : goal.invariant-loop-at
invariant-loop-at g l = opens (take l.at l.slots) ≡ []
