use Rattle.std.proofs.Common.{◌≡◌, take}
use Rattle.label_core.proofs.copies.ListTryCopy.try_copy.Given as goal

abbrev pub invariant-loop-i : goal.invariant-loop-i
invariant-loop-i g l = l.items.items ≡ take l.i l.self
