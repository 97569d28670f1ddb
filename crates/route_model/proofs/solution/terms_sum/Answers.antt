use Rattle.std.proofs.Common.{arith, pos, ◌*ℤ◌}
use Rattle.std.specs.Int.{w64}
use Rattle.path_graph.proofs.SumLemmas.{signed_loop_step}
use Rattle.route_model.specs.Parts.{term_at}
use Rattle.route_model.specs.Quantities.{value_of}
use Rattle.route_model.proofs.solution.terms_sum.Goals as goal

pub loop-term-preserved : goal.loop-term-preserved
loop-term-preserved c =
    signed_loop_step w64 c.loop-term.term-index (λ k. (term_at c.args.terms.now k).coef *ℤ pos (value_of c.args.model.now c.args.plan.now (term_at c.args.terms.now k).var)) _ 1000000000000 _ _ c.term_value.result c.sum_of-total.result c.loop-term.invariant (record { sfits = c.term_value.type_inv }) (record { sfits = c.sum_of-total.type_inv }) c.term_value.ensures.value c.term_value.ensures.small (omega arith) c.sum_of-total.ensures
