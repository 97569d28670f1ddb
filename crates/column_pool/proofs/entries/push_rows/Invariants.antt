use Rattle.std.proofs.Common.{◌≡◌, ◌++◌, map, take}
use Rattle.std.specs.Prelude.{slice_index}
use Rattle.column_pool.specs.Amounts.{sum_with}
use Rattle.column_pool.specs.Columns.{entries_from}
use Rattle.column_pool.proofs.entries.push_rows.Given as goal

abbrev pub invariant-loop-k : goal.invariant-loop-k
invariant-loop-k l = l.entries.items ≡ l.initial.entries.items ++ entries_from l.from (map (λ row. sum_with (slice_index l.uses) row.terms) (take l.k l.rows))
