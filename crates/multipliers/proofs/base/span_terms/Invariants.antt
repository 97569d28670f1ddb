use Rattle.std.proofs.Common.{◌*◌, ◌^◌}
use Rattle.path_graph.specs.Fit.{int_at}
use Rattle.path_graph.proofs.SumLemmas.{IsSumWithin}
use Rattle.route_model.specs.Terms.{sides_of, term, or_zero}
use Rattle.route_model.specs.Places.{span_at}
use Rattle.multipliers.proofs.base.span_terms.Given as goal

abbrev pub invariant-loop-k : goal.invariant-loop-k
invariant-loop-k l = IsSumWithin l.k (λ k. or_zero (term (int_at l.mults k) (sides_of (span_at l.spans k)))) (l.k * (2 ^ 48 * 1000000000000)) l.total
