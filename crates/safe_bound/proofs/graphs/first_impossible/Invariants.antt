use Rattle.std.proofs.Common.{◌≡◌, ◌==◌, ◌||◌, true}
use Rattle.path_graph.specs.First.{EachBelow}
use Rattle.route_model.specs.Places.{span_at}
use Rattle.safe_bound.specs.Bounds.{is_possible, least_at}
use Rattle.safe_bound.proofs.graphs.first_impossible.Given as goal

abbrev pub invariant-loop-g : goal.invariant-loop-g
invariant-loop-g l = EachBelow l.g (λ k. ((k == l.but) || is_possible (least_at l.leasts k) (span_at l.spans k)) ≡ true)
