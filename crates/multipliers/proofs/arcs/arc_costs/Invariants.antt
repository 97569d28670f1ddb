use Rattle.std.proofs.Common.{◌≡◌, map, take}
use Rattle.path_graph.specs.Fit.{int_at}
use Rattle.path_graph.specs.Sums.{sum_over}
use Rattle.multipliers.proofs.arcs.arc_costs.Given as goal

abbrev pub invariant-loop-arcs : goal.invariant-loop-arcs
invariant-loop-arcs l = l.costs.items ≡ map (map (sum_over (int_at l.units))) (take l.arcs-index l.maps)
