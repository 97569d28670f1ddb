use Rattle.std.proofs.Common.{◌≡◌, map, take}
use Rattle.vrp_demo.specs.Arcs.{arc_over}
use Rattle.vrp_demo.proofs.arcs.arcs_over.Given as goal

abbrev pub invariant-loop-pair : goal.invariant-loop-pair
invariant-loop-pair l = l.arcs ≡ map (arc_over l.stops) (take l.pair-index l.pairs)
