-- The bound of a search that stops.
use Rattle.std.specs.Prelude.{◌≡◌, ◌≢◌, ◌⊎◌, ℤ, ◌≤ℤ◌, None, List, All}
use Rattle.proof_rules.specs.Grows.{HoldsForSome}
use Rattle.search_tree.specs.declared.places.OpenPlace.{OpenPlace}
use Rattle.search_tree.specs.declared.search.Search.{Search}
use Rattle.search_tree.specs.Search.{opens_in}

-- the least value of the open places, or the cost of the best plan where that is less: at most each of these, and one of them
pub record IsBoundOf (s : Search) (bound : ℤ) : Type 0 where
  pub values : All (λ (p : OpenPlace). bound ≤ℤ p.value) (opens_in s)
  pub cost : s.best ≢ None → bound ≤ℤ s.z
  pub reached : HoldsForSome (λ (p : OpenPlace). bound ≡ p.value) (opens_in s) ⊎ ((s.best ≢ None) × (bound ≡ s.z))

-- at most each value of the places, and one of them
pub record IsLeastValue (places : List OpenPlace) (least : ℤ) : Type 0 where
  pub values : All (λ (p : OpenPlace). least ≤ℤ p.value) places
  pub reached : HoldsForSome (λ (p : OpenPlace). least ≡ p.value) places
