use Rattle.std.proofs.Common.{◌*◌, ◌^◌, neg_ℤ, pos}
use Rattle.std.specs.Prelude.{slice_index}
use Rattle.path_graph.proofs.SumLemmas.{IsSumWithin}
use Rattle.rank1_cuts.specs.Fit.{right_side_of}
use Rattle.multipliers.specs.Quantities.{cut_at}
use Rattle.route_model.specs.Terms.{term, up_to, or_zero}
use Rattle.multipliers.proofs.base.cut_terms.Given as goal

abbrev pub invariant-loop-c : goal.invariant-loop-c
invariant-loop-c l = IsSumWithin l.c (λ k. or_zero (term (neg_ℤ (pos (slice_index l.mults k))) (up_to (right_side_of (cut_at l.cuts k))))) (l.c * (2 ^ 48 * 1000000000000)) l.total
