use Rattle.std.proofs.Common.{◌≡◌, map}
use Rattle.solve_run.specs.Told.{told_slot}
use Rattle.solve_run.proofs.told.slots_told.Given as goal

abbrev pub invariant-loop-slot : goal.invariant-loop-slot
invariant-loop-slot l = l.nodes ≡ map told_slot l.yielded
