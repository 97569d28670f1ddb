use Rattle.std.proofs.Common.{ℕ, ◌≡◌, ◌<◌, ◌+◌, ◌-◌, ◌^◌, min, take}
use Rattle.std.specs.Prelude.{slice_index}
use Rattle.route_model.specs.Fit.{total_coef}
use Rattle.route_model.proofs.coefs.block_totals.Given as goal

abbrev pub invariant-loop-row : goal.invariant-loop-row
invariant-loop-row l = (k : ℕ) → k < 1024 → slice_index l.totals k ≡ min (total_coef (take l.row-index l.rows) (l.start + k)) (2 ^ 64 - 1)
