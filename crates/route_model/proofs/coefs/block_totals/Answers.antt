use Rattle.std.proofs.Common.{ℕ, arith}
use Rattle.std.proofs.lemmas.List.{get_or-replicate}
use Rattle.route_model.proofs.coefs.block_totals.Goals as goal

pub loop-row-init : goal.loop-row-init
loop-row-init c k below = let zero_at = get_or-replicate {A = ℕ} 1024 k 0 0 below in omega (arith, zero_at)
