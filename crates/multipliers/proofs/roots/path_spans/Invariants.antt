use Rattle.std.proofs.Common.{◌≡◌, map, take}
use Rattle.route_model.specs.Places.{path_span}
use Rattle.multipliers.proofs.roots.path_spans.Given as goal

abbrev pub invariant-loop-graph : goal.invariant-loop-graph
invariant-loop-graph l = l.spans.items ≡ map path_span (take l.graph-index l.graphs)
