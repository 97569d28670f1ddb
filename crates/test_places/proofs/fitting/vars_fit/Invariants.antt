use Rattle.path_graph.specs.First.{EachBelow}
use Rattle.route_model.specs.Parts.{var_at}
use Rattle.route_model.specs.Places.{IsPartOf, span_at, var_span}
use Rattle.test_places.proofs.fitting.vars_fit.Given as goal

abbrev pub invariant-loop-j : goal.invariant-loop-j
invariant-loop-j l = EachBelow l.j (λ k. IsPartOf (var_span (var_at l.vars k)) (span_at l.spans k))
