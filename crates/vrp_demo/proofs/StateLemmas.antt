-- States of the generator.
use Rattle.std.proofs.Common.{◌≡◌, ℕ, zero, suc, ◌+◌, ◌≤◌, ap, ◌∙◌, arith}
use Rattle.vrp_demo.specs.Draws.{next_state, state}

pub state_small : (seed k : ℕ) → seed ≤ 65536 → state seed k ≤ 65536
state_small seed zero h = h
state_small seed (suc k) h = omega arith

-- so many draws after so many
pub state_later : (seed a b : ℕ) → state (state seed a) b ≡ state seed (a + b)
state_later seed a zero = ap (state seed) (omega arith)
state_later seed a (suc b) =
    let next : suc (a + b) ≡ a + suc b = omega arith in
    ap next_state (state_later seed a b) ∙ ap (state seed) next
