use Rattle.std.proofs.Common.{◌≤◌, to_z, ℕ, arith, refl}
use Rattle.std.specs.Int.{w128}
use Rattle.std.specs.Prelude.{slice_index}
use Rattle.path_graph.specs.Fit.{int_at}
use Rattle.multipliers.proofs.ArcLemmas.{sum_step}
use Rattle.multipliers.proofs.arcs.unit_sum.Goals as goal

pub loop-var-preserved : goal.loop-var-preserved
loop-var-preserved c =
    let units = c.args.units.now in
    let vars = c.args.vars.now in
    let k = c.loop-var.var-index in
    let var : ℕ = slice_index vars k in
    let few : k ≤ 16 = omega (arith, c.requires.fits.few) in
    sum_step (int_at units) vars k (to_z w128 c.loop-var.total-bits) (int_at units var) c.plus-total.result c.loop-var-test.true few c.loop-var.invariant
    (c.requires.small var (c.requires.fits.each k 0 c.loop-var-test.true)) refl c.plus-total.ensures
