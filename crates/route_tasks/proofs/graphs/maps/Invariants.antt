use Rattle.std.proofs.Common.{◌≡◌, map, take}
use Rattle.route_tasks.specs.ModelOf.{mapped_of}
use Rattle.route_tasks.proofs.graphs.maps.Given as goal

abbrev pub invariant-loop-arc : goal.invariant-loop-arc
invariant-loop-arc l = l.maps ≡ map (mapped_of l.n) (take l.arc-index l.arcs)
