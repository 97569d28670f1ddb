-- More digits stand for no less.
use Rattle.std.proofs.Common.{ℕ, ◌+◌, ◌-◌, ◌*◌, ◌≤◌, List, [], ◌∷◌, fold, arith}

pub digits_grow : (n : ℕ) (bs : List ℕ) → n ≤ fold (λ n b. 10 * n + (b - 48)) n bs
digits_grow n [] = omega arith
digits_grow n (b ∷ bs) = let h = digits_grow (10 * n + (b - 48)) bs in omega (arith, h)
