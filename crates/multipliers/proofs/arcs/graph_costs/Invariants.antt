use Rattle.std.proofs.Common.{◌≡◌, map, take}
use Rattle.path_graph.specs.Fit.{int_at}
use Rattle.path_graph.specs.Sums.{sum_over}
use Rattle.multipliers.proofs.arcs.graph_costs.Given as goal

abbrev pub invariant-loop-vars : goal.invariant-loop-vars
invariant-loop-vars l = l.costs.items ≡ map (sum_over (int_at l.units)) (take l.vars-index l.arcs)
