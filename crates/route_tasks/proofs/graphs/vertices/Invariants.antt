use Rattle.std.proofs.Common.{◌≡◌, map}
use Rattle.std.specs.List.{range_with_len}
use Rattle.route_tasks.specs.ModelOf.{vertex_of}
use Rattle.route_tasks.proofs.graphs.vertices.Given as goal

abbrev pub invariant-loop-v : goal.invariant-loop-v
invariant-loop-v l = l.vertices ≡ map (vertex_of l.task) (range_with_len 0 l.v)
