-- What a space says of its labels, as plain data.
use Rattle.std.specs.Prelude.{◌≡◌, ℕ, ◌<◌, ℤ, Bool, true, Option, Some}

-- what a space says of its labels
pub record Rules (L : Type 0) : Type 0 where
  pub fits : L → Bool
  pub root : L
  pub cells : ℕ
  pub cell : L → ℕ
  pub degree : L → ℕ
  pub level : L → ℤ
  pub extend : L → ℕ → Option L
  pub dominates : L → L → Bool

module _ {L : Type 0} (r : Rules L) where
  -- the label is one of the space
  abbrev pub Fits : L → Type 0
  Fits l = r.fits l ≡ true

  -- the label a makes b superfluous
  abbrev pub Dominates : L → L → Type 0
  Dominates a b = r.dominates a b ≡ true

  -- the label l has the choice k, and becomes m over it
  abbrev pub Extends : L → ℕ → L → Type 0
  Extends l k m = (k < r.degree l) × (r.extend l k ≡ Some m)
