use Rattle.std.proofs.Common.{◌<◌, ◌≤◌, ℕ, to_z, pos, length, ap, ◌∙◌, arith}
use Rattle.std.specs.Int.{w128}
use Rattle.path_graph.specs.Fit.{int_at}
use Rattle.route_model.specs.Terms.{sides_of, term, or_zero}
use Rattle.route_model.specs.Places.{span_at}
use Rattle.multipliers.proofs.BaseLemmas.{term_read, term_step}
use Rattle.multipliers.proofs.base.span_terms.Goals as goal

pub loop-k-preserved : goal.loop-k-preserved
loop-k-preserved c =
    let k : ℕ = c.loop-k.k in
    let mults = c.args.mults.now in
    let few : k ≤ 30000 = omega arith in
    let below : k < length mults = omega arith in
    term_step (λ i. or_zero (term (int_at mults i) (sides_of (span_at c.args.spans.now i)))) k (to_z w128 c.loop-k.total-bits) c.span_term.result c.plus-total.result few c.loop-k.invariant
    (c.span_term.ensures.value ∙ ap or_zero (term_read (int_at mults k) (sides_of (span_at c.args.spans.now k)) (c.requires.range k (pos 0) below)))
    c.span_term.ensures.small c.plus-total.ensures
