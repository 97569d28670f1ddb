use Rattle.std.proofs.Common.{◌≡◌, length}
use Rattle.column_rounds.proofs.shown.middles.Given as goal

abbrev pub invariant-loop-graph : goal.invariant-loop-graph
invariant-loop-graph l = length l.tops.items ≡ l.graph-index
