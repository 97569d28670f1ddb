-- A box narrowed by a split, arcs that are dropped besides, and the solutions of the places that come so.
use Rattle.std.specs.Prelude.{◌≡◌, ℕ, ◌<◌, ℤ, pos, ◌+ℤ◌, ◌≤ℤ◌, ◌<ℤ◌, Bool, true, ◌||◌, ◌&&◌, ◌==◌, ◌⊎◌, List, [], ◌∷◌, length, All, slice_set}
use Rattle.std.specs.List.{list_any}
use Rattle.route_model.specs.declared.multipliers.Quantity.{Quantity}
use Rattle.route_model.specs.declared.multipliers.Quantity.TheVariants.{Var, Row, Set, Cut, Paths}
use Rattle.route_model.specs.declared.places.Span.{Span}
use Rattle.route_model.specs.declared.places.Split.{Split}
use Rattle.route_model.specs.declared.places.Spot.{Spot}
use Rattle.route_model.specs.declared.plan.Plan.{Plan}
use Rattle.route_model.specs.Parts.{ModelParts}
use Rattle.route_model.specs.Places.{SolvesAt, SpotFits, UsesNone, is_dropped, marks_of, span_at}

-- the part of a box up to d, and the part above d
abbrev pub low_part : Span → ℤ → Span
low_part span d = record { low = span.low; high = d }

abbrev pub high_part : Span → ℤ → Span
high_part span d = record { low = d +ℤ pos 1; high = span.high }

-- the box of a variable or path count; the other quantities have none at a place
abbrev pub box_in : Spot → Quantity → Span
box_in spot (Var j) = span_at spot.boxes.vars j
box_in spot (Paths g) = span_at spot.boxes.paths g
box_in spot (Row i) = span_at [] i
box_in spot (Set s) = span_at [] s
box_in spot (Cut c) = span_at [] c

-- the place with another box for a variable or path count
abbrev pub with_box : Spot → Quantity → Span → Spot
with_box spot (Var j) span = record spot { boxes = record spot.boxes { vars = slice_set spot.boxes.vars j span } }
with_box spot (Paths g) span = record spot { boxes = record spot.boxes { paths = slice_set spot.boxes.paths g span } }
with_box spot (Row i) span = spot
with_box spot (Set s) span = spot
with_box spot (Cut c) span = spot

-- the two places that a split makes
abbrev pub low_place : Spot → Split → Spot
low_place spot split = with_box spot split.quantity (low_part (box_in spot split.quantity) split.at)

abbrev pub high_place : Spot → Split → Spot
high_place spot split = with_box spot split.quantity (high_part (box_in spot split.quantity) split.at)

-- a variable or path count of the model
abbrev pub HasBox : ModelParts → Quantity → Type 0
HasBox m (Var j) = j < length m.vars
HasBox m (Paths g) = g < length m.graphs
HasBox m (Row i) = ⊥
HasBox m (Set s) = ⊥
HasBox m (Cut c) = ⊥

-- a split of a variable or path count, of whose box neither part is empty
pub record SplitFits (m : ModelParts) (spot : Spot) (split : Split) : Type 0 where
  pub quantity : HasBox m split.quantity
  pub low : (box_in spot split.quantity).low ≤ℤ split.at
  pub high : split.at <ℤ (box_in spot split.quantity).high

-- a solution of a place solves one of the two places of a split
abbrev pub SplitLaw : Type 0
SplitLaw = (m : ModelParts) (spot : Spot) (split : Split) (plan : Plan) → SplitFits m spot split → SolvesAt m spot plan
    → SolvesAt m (low_place spot split) plan ⊎ SolvesAt m (high_place spot split) plan

-- both are places of the model
abbrev pub PartsLaw : Type 0
PartsLaw = (m : ModelParts) (spot : Spot) (split : Split) → SplitFits m spot split → SpotFits m spot
    → SpotFits m (low_place spot split) × SpotFits m (high_place spot split)

-- an arc by its graph and its number, and whether it is one of a list
abbrev pub NamedArc : Type 0
NamedArc = ℕ × ℕ

abbrev pub is_named : List NamedArc → ℕ → ℕ → Bool
is_named arcs g a = list_any (λ (named : NamedArc). (named.0 == g) && (named.1 == a)) arcs

-- the place with the arcs of a list dropped besides
abbrev pub dropping : Spot → List NamedArc → Spot
dropping spot [] = spot
dropping spot ((g, a) ∷ arcs) = dropping (record spot { fixed = slice_set spot.fixed g (slice_set (marks_of spot.fixed g) a true) }) arcs

-- there is a mark for each arc of the list
abbrev pub HasMarks : Spot → List NamedArc → Type 0
HasMarks spot arcs = All (λ (named : NamedArc). (named.0 < length spot.fixed) × (named.1 < length (marks_of spot.fixed named.0))) arcs

-- then exactly these arcs are dropped besides, and nothing else changes
abbrev pub DropLaw : Type 0
DropLaw = (spot : Spot) (arcs : List NamedArc) → HasMarks spot arcs
    → ((dropping spot arcs).boxes ≡ spot.boxes) × ((g a : ℕ) → is_dropped (dropping spot arcs) g a ≡ (is_dropped spot g a || is_named arcs g a))

-- and a solution of the place that uses none of them solves the new one
abbrev pub KeepsLaw : Type 0
KeepsLaw = (m : ModelParts) (spot : Spot) (arcs : List NamedArc) (plan : Plan) → HasMarks spot arcs → SolvesAt m spot plan
    → UsesNone (is_named arcs) plan → SolvesAt m (dropping spot arcs) plan
