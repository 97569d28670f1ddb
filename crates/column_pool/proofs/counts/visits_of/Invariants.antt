use Rattle.std.proofs.Common.{◌≡◌, map, take}
use Rattle.path_graph.specs.Visits.{visit_over}
use Rattle.column_pool.proofs.counts.visits_of.Given as goal

abbrev pub invariant-loop-arc : goal.invariant-loop-arc
invariant-loop-arc l = l.visits.items ≡ map (visit_over l.graph) (take l.arc-index l.arcs)
