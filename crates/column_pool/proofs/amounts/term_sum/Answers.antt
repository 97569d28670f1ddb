use Rattle.std.proofs.Common.{◌≤◌, [], arith}
use Rattle.std.specs.Prelude.{slice_index}
use Rattle.std.proofs.lemmas.Int.{ints}
use Rattle.path_graph.specs.Within.{IsWithin}
use Rattle.route_model.specs.Parts.{term_at}
use Rattle.column_pool.proofs.AmountLemmas.{factor_told, sum_fits, sum_step}
use Rattle.column_pool.proofs.amounts.term_sum.Goals as goal

pub plus-total-requires : goal.plus-total-requires
plus-total-requires c =
    let few : c.loop-k.k ≤ 1000000 = omega (arith, c.requires.few_terms) in
    sum_fits _ c.loop-k.k _ c.times_uses.result few c.loop-k.invariant c.times_uses.ensures.near

pub loop-k-preserved : goal.loop-k-preserved
loop-k-preserved c =
    let few : c.loop-k.k ≤ 1000000 = omega (arith, c.requires.few_terms) in
    let term = term_at c.args.terms.now c.loop-k.k in
    let coef = (c.requires.terms c.loop-k.k (term_at [] 0) c.loop-k-test.true).coef in
    let near : IsWithin 1000000000 term.coef = (omega (arith, ints, coef.0), omega (arith, ints, coef.1)) in
    sum_step _ c.loop-k.k _ c.times_uses.result c.plus-total.result few c.loop-k.invariant
    (factor_told term.coef (slice_index c.args.uses.now term.var) c.times_uses.result near c.times_uses.ensures.product)
    c.times_uses.ensures.near c.plus-total.ensures
