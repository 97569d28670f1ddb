use Rattle.std.proofs.Common.{◌≡◌, ◌+◌, ◌-◌, map}
use Rattle.std.specs.List.{range_with_len, flat_map}
use Rattle.route_tasks.specs.Places.{customers}
use Rattle.route_tasks.specs.ModelOf.{var_of}
use Rattle.route_tasks.proofs.rows.vars.Given as goal

abbrev pub invariant-loop-low : goal.invariant-loop-low
invariant-loop-low l = l.vars ≡ flat_map (λ low. map (var_of l.task low) (range_with_len (low + 1) (customers l.task - low))) (range_with_len 0 l.low)
