use Rattle.std.proofs.Common.{ℕ, ◌<◌, ◌≤◌, ◌+◌}
use Rattle.route_model.specs.Fit.{total_coef}
use Rattle.route_model.proofs.coefs.block_fits.Given as goal

abbrev pub invariant-loop-k : goal.invariant-loop-k
invariant-loop-k l = (k : ℕ) → k < l.k → l.start + k < l.count → total_coef l.rows (l.start + k) ≤ 1048576
