use Rattle.std.proofs.Common.{◌*◌, ◌^◌}
use Rattle.std.specs.Prelude.{IsSome}
use Rattle.path_graph.specs.Fit.{int_at}
use Rattle.path_graph.proofs.SumLemmas.{IsSumWithin}
use Rattle.path_graph.specs.First.{EachBelow}
use Rattle.route_model.specs.Parts.{row_at}
use Rattle.route_model.specs.Terms.{sides_of_row, term, or_zero}
use Rattle.multipliers.proofs.base.row_terms.Given as goal

abbrev pub invariant-loop-i : goal.invariant-loop-i
invariant-loop-i l = record {
  sum : IsSumWithin l.i (λ k. or_zero (term (int_at l.mults k) (sides_of_row (row_at l.rows k)))) (l.i * (2 ^ 48 * 1000000000000)) l.total;
  defined : EachBelow l.i (λ k. IsSome (term (int_at l.mults k) (sides_of_row (row_at l.rows k))));
}
