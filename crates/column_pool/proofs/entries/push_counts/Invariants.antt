use Rattle.std.proofs.Common.{◌≡◌, ◌++◌, pos, map, take}
use Rattle.column_pool.specs.Columns.{entries_from}
use Rattle.column_pool.proofs.entries.push_counts.Given as goal

abbrev pub invariant-loop-k : goal.invariant-loop-k
invariant-loop-k l = l.entries.items ≡ l.initial.entries.items ++ entries_from l.from (map (λ n. pos n) (take l.k l.counts))
