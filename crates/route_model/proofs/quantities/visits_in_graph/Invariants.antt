use Rattle.std.proofs.Common.{◌≡◌, ◌≤◌, take}
use Rattle.path_graph.specs.Visits.{visits_along, visit_count}
use Rattle.route_model.proofs.quantities.visits_in_graph.Given as goal

abbrev pub invariant-loop-arc : goal.invariant-loop-arc
invariant-loop-arc l = (l.count ≡ visit_count l.set (visits_along l.graph (take l.arc-index l.arcs))) × (l.count ≤ l.arc-index)
