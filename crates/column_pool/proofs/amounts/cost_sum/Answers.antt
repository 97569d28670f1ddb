use Rattle.std.proofs.Common.{◌≤◌, arith}
use Rattle.std.specs.Prelude.{slice_index}
use Rattle.route_model.specs.Parts.{var_at}
use Rattle.column_pool.proofs.AmountLemmas.{factor_told, sum_fits, sum_step}
use Rattle.column_pool.proofs.amounts.cost_sum.Goals as goal

pub plus-total-requires : goal.plus-total-requires
plus-total-requires c =
    let few : c.loop-j.j ≤ 1000000 = omega (arith, c.requires.vars.few) in
    sum_fits _ c.loop-j.j _ c.times_uses.result few c.loop-j.invariant c.times_uses.ensures.near

pub loop-j-preserved : goal.loop-j-preserved
loop-j-preserved c =
    let few : c.loop-j.j ≤ 1000000 = omega (arith, c.requires.vars.few) in
    sum_step _ c.loop-j.j _ c.times_uses.result c.plus-total.result few c.loop-j.invariant
    (factor_told (var_at c.args.vars.now c.loop-j.j).cost (slice_index c.args.uses.now c.loop-j.j) c.times_uses.result (c.requires.vars.each c.loop-j.j _ c.loop-j-test.true).cost c.times_uses.ensures.product)
    c.times_uses.ensures.near c.plus-total.ensures
