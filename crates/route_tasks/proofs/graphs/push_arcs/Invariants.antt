use Rattle.std.proofs.Common.{◌≡◌, ◌-◌, ◌++◌, map, filter}
use Rattle.std.specs.List.{range_with_len}
use Rattle.route_tasks.specs.Places.{customers}
use Rattle.route_tasks.specs.ModelOf.{arc_of, is_head}
use Rattle.route_tasks.proofs.graphs.push_arcs.Given as goal

abbrev pub invariant-loop-head : goal.invariant-loop-head
invariant-loop-head l = l.arcs ≡ l.fn.arcs ++ map (arc_of l.task l.tail) (filter (is_head (customers l.task) l.tail) (range_with_len 1 (l.head - 1)))
