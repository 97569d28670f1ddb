-- What lies in windows and limits.
use Rattle.std.specs.Prelude.{ℕ, ◌<◌, ℤ, pos, ◌≤ℤ◌, neg_ℤ, List}
use Rattle.path_graph.specs.declared.parts.Values.{Values}
use Rattle.path_graph.specs.declared.parts.Window.{Window}
use Rattle.path_graph.specs.Fit.{int_at, window_at}

-- the values lie in the windows
abbrev pub AreWithin : List Window → Values → Type 0
AreWithin windows value = (k : ℕ) → k < 6 → ((window_at windows k).low ≤ℤ (int_at value.at k)) × ((int_at value.at k) ≤ℤ (window_at windows k).high)

-- z is within n of 0
abbrev pub IsWithin : ℕ → ℤ → Type 0
IsWithin n z = ((neg_ℤ (pos n)) ≤ℤ z) × (z ≤ℤ (pos n))

-- in the limits of windows and consumptions
abbrev pub IsInLimits : ℤ → Type 0
IsInLimits x = IsWithin 100000000 x

abbrev pub AreInLimits : List ℤ → Type 0
AreInLimits xs = (k : ℕ) → k < 6 → IsInLimits (int_at xs k)
