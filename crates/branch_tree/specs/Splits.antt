-- Splits of the boxes of variables and path counts.
use Rattle.std.specs.Prelude.{◌≡◌, ℕ, ◌<◌, ℤ, ◌≤ℤ◌, ◌<ℤ◌, List, length, All}
use Rattle.route_model.specs.declared.multipliers.Quantity.{Quantity}
use Rattle.route_model.specs.declared.multipliers.Quantity.TheVariants.{Var, Row, Set, Cut, Paths}
use Rattle.route_model.specs.declared.places.Boxes.{Boxes}
use Rattle.route_model.specs.declared.places.Span.{Span}
use Rattle.route_model.specs.declared.places.Split.{Split}
use Rattle.route_model.specs.Places.{span_at}

-- the box is not empty
abbrev pub HasNumber : Span → Type 0
HasNumber span = span.low ≤ℤ span.high

-- it has one number alone
abbrev pub IsPoint : Span → Type 0
IsPoint span = span.low ≡ span.high

-- every box is a point
abbrev pub ArePoints : Boxes → Type 0
ArePoints boxes = All IsPoint boxes.vars × All IsPoint boxes.paths

-- the box at a place is there, and neither its part up to a number nor its part above is empty
pub record Parts (spans : List Span) (place : ℕ) (at : ℤ) : Type 0 where
  pub there : place < length spans
  pub low : (span_at spans place).low ≤ℤ at
  pub high : at <ℤ (span_at spans place).high

-- the same of the box of a variable or path count; no other quantity has a box
abbrev pub PartsBox : Boxes → Quantity → ℤ → Type 0
PartsBox boxes (Var j) at = Parts boxes.vars j at
PartsBox boxes (Paths g) at = Parts boxes.paths g at
PartsBox boxes (Row i) at = ⊥
PartsBox boxes (Set s) at = ⊥
PartsBox boxes (Cut c) at = ⊥

-- a variable or path count is split, and neither part of its box is empty
abbrev pub IsSplitOf : Boxes → Split → Type 0
IsSplitOf boxes split = PartsBox boxes split.quantity split.at
