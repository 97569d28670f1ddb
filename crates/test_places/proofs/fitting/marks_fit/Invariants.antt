use Rattle.std.proofs.Common.{◌≡◌, length}
use Rattle.path_graph.specs.First.{EachBelow}
use Rattle.route_model.specs.Parts.{graph_in}
use Rattle.route_model.specs.Places.{marks_of}
use Rattle.test_places.proofs.fitting.marks_fit.Given as goal

abbrev pub invariant-loop-g : goal.invariant-loop-g
invariant-loop-g l = EachBelow l.g (λ k. length (marks_of l.fixed k) ≡ length (graph_in l.graphs k).arcs)
