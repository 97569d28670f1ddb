-- The open place that is taken next: one of the least value.
use Rattle.std.specs.Prelude.{◌≡◌, ◌⊎◌, ℕ, ℤ, ◌≤ℤ◌, ◌<ℤ◌, Option, None, Some, List, All}
use Rattle.open_tree.specs.declared.slots.Slot.{Slot}
use Rattle.open_tree.specs.Open.{opens}
use Rattle.open_tree.specs.Slots.{IsOpenAt}
use Rattle.made_nodes.specs.declared.node.MadeNode.{MadeNode}
use Rattle.search_tree.specs.declared.places.OpenPlace.{OpenPlace}
use Rattle.solve_run.specs.declared.choosing.Candidate.{Candidate}

-- a place is open there, and none is of less value
pub record IsLeastOpen (slots : List (Slot OpenPlace MadeNode)) (at : ℕ) : Type 0 where
  pub place : OpenPlace
  pub is_open : IsOpenAt slots at place
  pub least : All (λ (p : OpenPlace). place.value ≤ℤ p.value) (opens slots)

-- the first of two where its value is not greater, else the other
abbrev pub IsFirstLess : Option Candidate → ℕ → ℤ → Candidate → Type 0
IsFirstLess None at value new = new ≡ record { at = at; value = value }
IsFirstLess (Some old) at value new = ((old.value ≤ℤ value) × (new ≡ old)) ⊎ ((value <ℤ old.value) × (new ≡ record { at = at; value = value }))
