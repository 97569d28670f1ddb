-- What is promised of the answer.
use Rattle.std.specs.Prelude.{◌≡◌, ℤ, pos, neg_ℤ, ◌≤ℤ◌, None}
use Rattle.fixed_master.specs.declared.limits.TheConstants.{MAX_MULTIPLIER, MAX_WEIGHT}
use Rattle.fixed_master.specs.declared.parts.Side.{Side}

-- a multiplier is within MAX_MULTIPLIER of 0, not positive where the low side is open, not negative where the high one is
pub record SuitsSide (side : Side) (mult : ℤ) : Type 0 where
  pub least : (neg_ℤ MAX_MULTIPLIER) ≤ℤ mult
  pub most : mult ≤ℤ MAX_MULTIPLIER
  pub low : side.low ≡ None → mult ≤ℤ (pos 0)
  pub high : side.high ≡ None → (pos 0) ≤ℤ mult

-- a weight is from 0 to MAX_WEIGHT
abbrev pub IsWeight : ℤ → Type 0
IsWeight weight = ((pos 0) ≤ℤ weight) × (weight ≤ℤ MAX_WEIGHT)
