use Rattle.std.proofs.Common.{ℕ, ◌<◌, ◌≤◌, ◌*◌}
use Rattle.route_model.specs.Fit.{total_coef}
use Rattle.route_model.proofs.coefs.coefs_fit.Given as goal

abbrev pub invariant-loop-block : goal.invariant-loop-block
invariant-loop-block l = (j : ℕ) → j < l.block * 1024 → j < l.count → total_coef l.rows j ≤ 1048576
