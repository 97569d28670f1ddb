-- Distances, without rounding error.
use Rattle.std.specs.Prelude.{◌≡◌, ℕ, zero, suc, ◌+◌, ◌-◌, ◌*◌, ◌≤◌, ◌-ℤ◌, unsigned_abs, Bool, nat_le, if◌then◌else◌}
use Rattle.path_graph.specs.Within.{IsWithin}
use Rattle.route_tasks.specs.declared.limits.TheConstants.{MAX_COORDINATE}
use Rattle.route_tasks.specs.declared.task.Stop.{Stop}
use Rattle.route_tasks.specs.declared.task.Style.{Style}
use Rattle.route_tasks.specs.declared.task.Style.TheVariants.{Euclid, Tenths}

-- coordinates within MAX_COORDINATE of 0
pub record IsPlaced (s : Stop) : Type 0 where
  pub across : IsWithin MAX_COORDINATE s.x
  pub along : IsWithin MAX_COORDINATE s.y

-- the squared distance
abbrev pub squared_gap : ℕ → ℕ → ℕ
squared_gap across along = across * across + along * along

abbrev pub squared : Stop → Stop → ℕ
squared a b = squared_gap (unsigned_abs (a.x -ℤ b.x)) (unsigned_abs (a.y -ℤ b.y))

-- the greatest number at which P holds
pub record IsGreatest (P : ℕ → Type 0) (d : ℕ) : Type 0 where
  pub holds : P d
  pub most : (e : ℕ) → P e → e ≤ d

-- what a distance may be for a squared one: rounded to the nearest, or tenths that are cut off
abbrev pub AtMostNearest : ℕ → ℕ → Type 0
AtMostNearest square d = (2 * d - 1) * (2 * d - 1) ≤ 4 * square

abbrev pub AtMostTenths : ℕ → ℕ → Type 0
AtMostTenths square d = d * d ≤ 100 * square

-- 0 where the squared distance is 0, else the greatest
pub record IsEuclid (square d : ℕ) : Type 0 where
  pub none : square ≡ 0 → d ≡ 0
  pub greatest : 1 ≤ square → IsGreatest (AtMostNearest square) d

abbrev pub IsTenths : ℕ → ℕ → Type 0
IsTenths square d = IsGreatest (AtMostTenths square) d

abbrev pub IsDistance : Style → ℕ → ℕ → Type 0
IsDistance Euclid square d = IsEuclid square d
IsDistance Tenths square d = IsTenths square d

-- the same, computed: the greatest number up to n that passes a test, 0 where there is none
unfoldable pub greatest_up_to : ℕ → (ℕ → Bool) → ℕ
greatest_up_to zero test = 0
greatest_up_to (suc n) test = if test (suc n) then suc n else greatest_up_to n test

-- a distance is at most the squared one, or 100 times it
unfoldable pub root_of : Style → ℕ → ℕ
root_of Euclid square = greatest_up_to square (λ d. nat_le ((2 * d - 1) * (2 * d - 1)) (4 * square))
root_of Tenths square = greatest_up_to (100 * square) (λ d. nat_le (d * d) (100 * square))

abbrev pub distance_of : Style → Stop → Stop → ℕ
distance_of style a b = root_of style (squared a b)
