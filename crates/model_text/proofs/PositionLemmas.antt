-- The positions of resources from one on.
use Rattle.std.proofs.Common.{◌≡◌, ℕ, zero, suc, ◌<◌, ◌∷◌, drop, ◌+◌, refl, arith}
use Rattle.path_graph.specs.Walk.{positions}

pub positions_from : (k : ℕ) → k < 6 → drop k positions ≡ k ∷ drop (k + 1) positions
positions_from zero h = refl
positions_from (suc zero) h = refl
positions_from (suc (suc zero)) h = refl
positions_from (suc (suc (suc zero))) h = refl
positions_from (suc (suc (suc (suc zero)))) h = refl
positions_from (suc (suc (suc (suc (suc zero))))) h = refl
positions_from (suc (suc (suc (suc (suc (suc k)))))) h = absurd (omega arith)
