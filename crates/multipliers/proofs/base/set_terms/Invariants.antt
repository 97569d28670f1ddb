use Rattle.std.proofs.Common.{◌*◌, ◌^◌}
use Rattle.path_graph.specs.Fit.{int_at}
use Rattle.path_graph.proofs.SumLemmas.{IsSumWithin}
use Rattle.route_model.specs.Terms.{term, up_to, or_zero}
use Rattle.multipliers.proofs.base.set_terms.Given as goal

abbrev pub invariant-loop-mult : goal.invariant-loop-mult
invariant-loop-mult l = IsSumWithin l.mult-index (λ k. or_zero (term (int_at l.mults k) (up_to 1))) (l.mult-index * (2 ^ 48 * 1000000000000)) l.total
