use Rattle.std.proofs.Common.{◌≤◌, ℕ, neg_ℤ, to_z, pos, [], ap, ◌∙◌, arith}
use Rattle.std.specs.Int.{w128}
use Rattle.std.specs.Prelude.{slice_index}
use Rattle.std.proofs.lemmas.List.{get_or_default}
use Rattle.rank1_cuts.specs.declared.cut.Cut.{Cut}
use Rattle.rank1_cuts.specs.Fit.{right_side_of}
use Rattle.multipliers.specs.Quantities.{cut_at}
use Rattle.route_model.specs.Terms.{term, up_to, or_zero}
use Rattle.multipliers.proofs.BaseLemmas.{term_step}
use Rattle.multipliers.proofs.base.cut_terms.Goals as goal

pub loop-c-preserved : goal.loop-c-preserved
loop-c-preserved c =
    let k : ℕ = c.loop-c.c in
    let mults = c.args.mults.now in
    let few : k ≤ 30000 = omega arith in
    let read = c.index-cuts-c.is ∙ get_or_default c.args.cuts.now k c.index-cuts-c.result (cut_at [] 0) c.loop-c-test.true in
    term_step (λ i. or_zero (term (neg_ℤ (pos (slice_index mults i))) (up_to (right_side_of (cut_at c.args.cuts.now i))))) k (to_z w128 c.loop-c.total-bits) c.cut_term.result c.plus-total.result few c.loop-c.invariant
    (c.cut_term.ensures.value ∙ ap (λ (cut : Cut). or_zero (term (neg_ℤ (pos (slice_index mults k))) (up_to (right_side_of cut)))) read)
    c.cut_term.ensures.small c.plus-total.ensures
