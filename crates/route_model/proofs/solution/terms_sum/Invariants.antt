use Rattle.std.proofs.Common.{◌*◌, pos, ◌*ℤ◌}
use Rattle.path_graph.proofs.SumLemmas.{IsSumWithin}
use Rattle.route_model.specs.Parts.{term_at}
use Rattle.route_model.specs.Quantities.{value_of}
use Rattle.route_model.proofs.solution.terms_sum.Given as goal

abbrev pub invariant-loop-term : goal.invariant-loop-term
invariant-loop-term l = IsSumWithin l.term-index (λ k. (term_at l.terms k).coef *ℤ pos (value_of l.model l.plan (term_at l.terms k).var)) (l.term-index * 1000000000000) l.total
