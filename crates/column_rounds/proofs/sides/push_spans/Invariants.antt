use Rattle.std.proofs.Common.{◌≡◌, ◌+◌, length}
use Rattle.column_rounds.proofs.sides.push_spans.Given as goal

abbrev pub invariant-loop-span : goal.invariant-loop-span
invariant-loop-span l = length l.sides.items ≡ length l.initial.sides.items + l.span-index
