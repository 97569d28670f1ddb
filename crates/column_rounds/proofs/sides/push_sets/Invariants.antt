use Rattle.std.proofs.Common.{◌≡◌, ◌+◌, length}
use Rattle.column_rounds.proofs.sides.push_sets.Given as goal

abbrev pub invariant-loop-set : goal.invariant-loop-set
invariant-loop-set l = length l.sides.items ≡ length l.initial.sides.items + l._set
