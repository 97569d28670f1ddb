use Rattle.std.proofs.Common.{◌≡◌}
use Rattle.std.specs.List.{range_with_len, flat_map}
use Rattle.route_tasks.specs.ModelOf.{arcs_at}
use Rattle.route_tasks.proofs.graphs.arcs.Given as goal

abbrev pub invariant-loop-tail : goal.invariant-loop-tail
invariant-loop-tail l = l.arcs ≡ flat_map (arcs_at l.task) (range_with_len 0 l.tail)
