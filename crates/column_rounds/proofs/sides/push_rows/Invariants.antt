use Rattle.std.proofs.Common.{◌≡◌, ◌+◌, length}
use Rattle.column_rounds.proofs.sides.push_rows.Given as goal

abbrev pub invariant-loop-row : goal.invariant-loop-row
invariant-loop-row l = length l.sides.items ≡ length l.initial.sides.items + l.row-index
