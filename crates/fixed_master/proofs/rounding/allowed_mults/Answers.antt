use Rattle.std.proofs.Common.{rules, FitsSigned, w64}
use Rattle.std.proofs.lemmas.Int.{to_z-of_z}
use Rattle.fixed_master.proofs.PairLemmas.{all_zip_more}
use Rattle.fixed_master.specs.Duals.{SuitsSide}
use Rattle.fixed_master.proofs.rounding.allowed_mults.Goals as goal

pub loop-place-preserved : goal.loop-place-preserved
loop-place-preserved c =
    let fits : FitsSigned w64 c.allowed_mult.result = search rules in
    all_zip_more SuitsSide c.args.sides.now c.loop-place.mult c.push.new.self c.loop-place.place _ c.allowed_mult.result c.loop-place-test.true c.loop-place.invariant c.allowed_mult.ensures (simp to_z-of_z at c.in_ok-push.ensures.ok)
