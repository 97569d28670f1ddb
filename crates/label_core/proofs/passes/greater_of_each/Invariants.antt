use Rattle.std.proofs.Common.{◌≡◌, take}
use Rattle.label_core.specs.Passes.{greater_each}
use Rattle.label_core.proofs.passes.greater_of_each.Given as goal

abbrev pub invariant-loop-i : goal.invariant-loop-i
invariant-loop-i l = l.all.items ≡ take l.i (greater_each l.a l.b)
