-- Bounds that may be missing.
use Rattle.std.specs.Prelude.{ℤ, ◌≤ℤ◌, Option, None, Some}
use lib.Signed.{◌<ℤ◌}

-- the number is at least the least, and there is a least
abbrev pub IsAtLeast : Option ℤ → ℤ → Type 0
IsAtLeast None x = ⊥
IsAtLeast (Some least) x = least ≤ℤ x

-- the number is at most the limit, and there is a limit
abbrev pub IsAtMost : Option ℤ → ℤ → Type 0
IsAtMost None x = ⊥
IsAtMost (Some limit) x = x ≤ℤ limit

-- the number is above the limit, as every number is where there is none
abbrev pub IsAbove : Option ℤ → ℤ → Type 0
IsAbove None x = Unit {0}
IsAbove (Some limit) x = limit <ℤ x

-- the limit is no greater than another: what is at most the one is at most the other
abbrev pub IsNoGreater : Option ℤ → Option ℤ → Type 0
IsNoGreater None limit = Unit {0}
IsNoGreater (Some x) None = ⊥
IsNoGreater (Some x) (Some y) = x ≤ℤ y
