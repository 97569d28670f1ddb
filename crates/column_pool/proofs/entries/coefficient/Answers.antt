use Rattle.std.proofs.Common.{◌≡◌, ◌≤◌, pos, to_z, ◌∙◌, ap, arith}
use Rattle.std.specs.Int.{w64}
use Rattle.std.proofs.lemmas.Int.{ints}
use Rattle.column_pool.proofs.CountLemmas.{coef_few}
use Rattle.column_pool.proofs.entries.coefficient.Goals as goal

pub overflow_cast-result : goal.overflow_cast-result
overflow_cast-result c =
    let few : c.coef.result ≤ 16777216 = omega (arith, c.coef.ensures.coef, coef_few c.args.cut.now c.args.visits.now, c.requires.few) in
    omega (arith, ints, few)

pub returns : goal.returns
returns c =
    let few : c.coef.result ≤ 16777216 = omega (arith, c.coef.ensures.coef, coef_few c.args.cut.now c.args.visits.now, c.requires.few) in
    let read : to_z w64 c.coef.result ≡ pos c.coef.result = omega (arith, ints, few) in
    read ∙ ap pos c.coef.ensures.coef
