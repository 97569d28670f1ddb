use Rattle.std.proofs.Common.{◌≡◌, ◌+◌, ◌-◌, ◌++◌, map}
use Rattle.std.specs.List.{range_with_len}
use Rattle.route_tasks.specs.ModelOf.{var_of}
use Rattle.route_tasks.proofs.rows.push_vars.Given as goal

abbrev pub invariant-loop-high : goal.invariant-loop-high
invariant-loop-high l = l.vars ≡ l.fn.vars ++ map (var_of l.task l.low) (range_with_len (l.low + 1) (l.high - (l.low + 1)))
