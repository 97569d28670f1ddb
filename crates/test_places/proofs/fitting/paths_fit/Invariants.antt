use Rattle.path_graph.specs.First.{EachBelow}
use Rattle.route_model.specs.Parts.{graph_in}
use Rattle.route_model.specs.Places.{IsPartOf, path_span, span_at}
use Rattle.test_places.proofs.fitting.paths_fit.Given as goal

abbrev pub invariant-loop-g : goal.invariant-loop-g
invariant-loop-g l = EachBelow l.g (λ k. IsPartOf (path_span (graph_in l.graphs k)) (span_at l.spans k))
