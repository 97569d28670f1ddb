-- The draws of the generator.
use Rattle.std.specs.Prelude.{ℕ, zero, suc, ◌+◌, ◌*◌, ◌%◌}

abbrev pub next_state : ℕ → ℕ
next_state x = (75 * x + 74) % 65537

-- the state after so many draws; at first it is the seed
abbrev pub state : ℕ → ℕ → ℕ
state seed zero = seed
state seed (suc k) = next_state (state seed k)

-- the answer of the k-th draw, counted from 1, of a number below so many
abbrev pub draw : ℕ → ℕ → ℕ → ℕ
draw seed k sides = state seed k % sides
