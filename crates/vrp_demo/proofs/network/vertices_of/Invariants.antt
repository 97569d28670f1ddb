use Rattle.std.proofs.Common.{◌≡◌, map}
use Rattle.std.specs.List.{range_with_len}
use Rattle.vrp_demo.specs.Network.{vertex_of}
use Rattle.vrp_demo.proofs.network.vertices_of.Given as goal

abbrev pub invariant-loop-v : goal.invariant-loop-v
invariant-loop-v l = l.vertices ≡ map (vertex_of l.size) (range_with_len 0 l.v)
