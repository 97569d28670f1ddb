use Rattle.std.proofs.Common.{◌≡◌, length}
use Rattle.column_rounds.proofs.master.values_of.Given as goal

abbrev pub invariant-loop-column : goal.invariant-loop-column
invariant-loop-column l = length l.values.items ≡ l.count
