-- Boxes of variables that are points, the first that is none, and the parts of a split.
use Rattle.std.specs.Prelude.{◌≡◌, ℕ, ◌<◌, ℤ, Option, None, Some, List, [], ◌∷◌, length, take}
use Rattle.route_model.specs.declared.multipliers.Quantity.TheVariants.{Var}
use Rattle.route_model.specs.declared.places.Span.{Span}
use Rattle.route_model.specs.declared.places.Split.{Split}
use Rattle.route_model.specs.declared.places.Spot.{Spot}
use Rattle.route_model.specs.PlaceParts.{high_place, low_place}
use Rattle.route_model.specs.Places.{span_at}
use Rattle.proof_rules.specs.Nodes.{ArePoints, AtPlace}
use Rattle.proof_rules.specs.OpenTrees.{Valued}

-- all boxes are points; or this one is none, and those before it are
pub record IsFirstWide (spans : List Span) (j : ℕ) : Type 0 where
  pub inside : j < length spans
  pub wide : ¬ ((span_at spans j).low ≡ (span_at spans j).high)
  pub before : ArePoints (take j spans)

abbrev pub IsWideAt : List Span → Option ℕ → Type 0
IsWideAt spans None = ArePoints spans
IsWideAt spans (Some j) = IsFirstWide spans j

-- the split of a place at the low end of the box of a variable
abbrev pub split_at : Spot → ℕ → Split
split_at spot j = record { quantity = Var j; at = (span_at spot.boxes.vars j).low }

-- two places with a value; the parts that a split makes of a place
abbrev pub both_valued : Spot → Spot → ℤ → List Valued
both_valued below above value = record { item = AtPlace below; value = value } ∷ record { item = AtPlace above; value = value } ∷ []

abbrev pub parts_opened : Spot → Split → ℤ → List Valued
parts_opened spot split value = both_valued (low_place spot split) (high_place spot split) value
