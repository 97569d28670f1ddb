use Rattle.std.proofs.Common.{◌≤◌, ℕ, to_z, pos, ap, ◌∙◌, arith}
use Rattle.std.specs.Int.{w128}
use Rattle.path_graph.specs.Fit.{int_at}
use Rattle.route_model.specs.Terms.{term, up_to, or_zero}
use Rattle.multipliers.proofs.BaseLemmas.{term_read, term_step}
use Rattle.multipliers.proofs.base.set_terms.Goals as goal

pub loop-mult-preserved : goal.loop-mult-preserved
loop-mult-preserved c =
    let k : ℕ = c.loop-mult.mult-index in
    let mults = c.args.mults.now in
    let few : k ≤ 30000 = omega arith in
    term_step (λ i. or_zero (term (int_at mults i) (up_to 1))) k (to_z w128 c.loop-mult.total-bits) c.span_term.result c.plus-total.result few c.loop-mult.invariant
    (c.span_term.ensures.value ∙ ap or_zero (term_read (int_at mults k) (up_to 1) (c.requires.range k (pos 0) c.loop-mult-test.true)))
    c.span_term.ensures.small c.plus-total.ensures
