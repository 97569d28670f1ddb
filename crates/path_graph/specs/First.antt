-- The first fault among numbered things.
use Rattle.std.specs.Prelude.{ℕ, ◌<◌}

-- P holds at each number below n
abbrev pub EachBelow : ℕ → (ℕ → Type 0) → Type 0
EachBelow n P = (k : ℕ) → k < n → P k

-- i is the first number below n at which P does not hold
pub record IsFirstFault (n : ℕ) (P : ℕ → Type 0) (i : ℕ) : Type 0 where
  pub within : i < n
  pub fails : ¬ (P i)
  pub before : (k : ℕ) → k < i → P k
