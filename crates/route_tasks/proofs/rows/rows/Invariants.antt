use Rattle.std.proofs.Common.{◌≡◌, ◌-◌, map}
use Rattle.std.specs.List.{range_with_len}
use Rattle.route_tasks.specs.ModelOf.{row_of}
use Rattle.route_tasks.proofs.rows.rows.Given as goal

abbrev pub invariant-loop-i : goal.invariant-loop-i
invariant-loop-i l = l.rows ≡ map (row_of l.n) (range_with_len 1 (l.i - 1))
