use Rattle.std.proofs.Common.{ℕ, ◌≡◌, ◌≤◌, ◌+◌, ◌-◌, ◌*◌, arith, subst, refl, inl, inr}
use Rattle.std.proofs.lemmas.Bool.{cases_lt}
use Rattle.route_model.specs.Fit.{total_coef}
use Rattle.route_model.proofs.coefs.coefs_fit.Goals as goal

pub loop-block-preserved : goal.loop-block-preserved
loop-block-preserved c j below declared =
    let start = c.loop-block.block * 1024 in
    elim (cases_lt j start) [
      | inl before ↦ c.loop-block.invariant j before declared
      | inr from ↦ let same : start + (j - start) ≡ j = omega arith in
          subst (λ (n : ℕ). total_coef c.args.rows.now n ≤ 1048576) same (c.if-not-block_fits.ensures.0 refl (j - start) (omega arith) (omega arith))
    ]
