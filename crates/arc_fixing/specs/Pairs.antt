-- Joins of pairs of labels above a limit.
use Rattle.std.specs.Prelude.{◌≡◌, ℕ, ◌<◌, false, ℤ, Option, List, All, length, slice_index}
use lib.Signed.{◌<ℤ◌}
use Rattle.label_rules.specs.Joins.{Joins, join_cost}
use Rattle.label_rules.specs.declared.label.Label.{Label}
use Rattle.label_rules.specs.Labels.{Setting}
use Rattle.label_rules.specs.Leasts.{AreAllAbove}
use Rattle.route_model.specs.PlaceParts.{NamedArc}
use Rattle.proof_check.specs.Index.{label_at, places_at}

-- the places of the labels at a vertex, in a list
pub record IsRow (labels : List Label) (v : ℕ) (places : List ℕ) : Type 0 where
  pub row : places ≡ places_at labels v
  pub within : All (λ k. k < length labels) places

-- where two labels join over an arc, they cost more than the limit
abbrev pub IsPairAbove : Setting → Label → ℕ → Label → ℤ → Type 0
IsPairAbove S f a b limit = Joins S f a b → limit <ℤ join_cost S f a b

-- so do a label and those of a list at these places
abbrev pub AreAboveFrom : Setting → Label → ℕ → List Label → List ℕ → ℤ → Type 0
AreAboveFrom S f a back places limit = (j : ℕ) → j < length places → IsPairAbove S f a (label_at back (slice_index places j)) limit

-- an arc that is not shut, and over which all joins are above the limit; and the same of an arc with its graph
pub record IsOpenAbove (S : Setting) (fore back : List Label) (limit : Option ℤ) (a : ℕ) : Type 0 where
  pub open_arc : S.is_shut a ≡ false
  pub above : AreAllAbove S fore back limit a

abbrev pub IsFixableIn : Setting → List Label → List Label → Option ℤ → NamedArc → Type 0
IsFixableIn S fore back limit arc = IsOpenAbove S fore back limit arc.1
