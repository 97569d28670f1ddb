use Rattle.std.proofs.Common.{◌*◌, ◌*ℤ◌, pos}
use Rattle.std.specs.Prelude.{slice_index}
use Rattle.path_graph.proofs.SumLemmas.{IsSumWithin}
use Rattle.route_model.specs.Parts.{term_at}
use Rattle.column_pool.proofs.amounts.term_sum.Given as goal

abbrev pub invariant-loop-k : goal.invariant-loop-k
invariant-loop-k l = IsSumWithin l.k (λ k. (term_at l.terms k).coef *ℤ pos (slice_index l.uses (term_at l.terms k).var)) (l.k * (1000000000 * 16777216)) l.total
