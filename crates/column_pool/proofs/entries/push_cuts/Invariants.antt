use Rattle.std.proofs.Common.{◌≡◌, ◌++◌, pos, map, take}
use Rattle.rank1_cuts.specs.Visits.{coef_of}
use Rattle.column_pool.specs.Columns.{entries_from}
use Rattle.column_pool.proofs.entries.push_cuts.Given as goal

abbrev pub invariant-loop-k : goal.invariant-loop-k
invariant-loop-k l = l.entries.items ≡ l.initial.entries.items ++ entries_from l.from (map (λ cut. pos (coef_of cut l.visits)) (take l.k l.cuts))
