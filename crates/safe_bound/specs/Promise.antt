-- What a bound and a limit promise, and the ranges of leasts, bounds and limits.
use Rattle.std.specs.Prelude.{◌≡◌, ℕ, ◌<◌, ◌^◌, ℤ, pos, ◌≤ℤ◌, ◌<ℤ◌, Option, IfSome, List, length, All}
use Rattle.path_graph.specs.Bounds.{IsAtMost}
use Rattle.path_graph.specs.declared.limits.TheConstants.{MAX_PATHS}
use Rattle.path_graph.specs.Within.{IsWithin}
use Rattle.rank1_cuts.specs.declared.cut.Cut.{Cut}
use Rattle.rank1_cuts.specs.Fit.{CutFits}
use Rattle.route_model.specs.declared.multipliers.Mult.{Mult}
use Rattle.route_model.specs.declared.multipliers.Priced.{Priced}
use Rattle.route_model.specs.declared.places.Boxes.{Boxes}
use Rattle.route_model.specs.declared.places.Span.{Span}
use Rattle.route_model.specs.declared.plan.Plan.{Plan}
use Rattle.route_model.specs.Fit.{ModelFits}
use Rattle.route_model.specs.Parts.{ModelParts, taken_at}
use Rattle.route_model.specs.Places.{SolvesWithin}
use Rattle.route_model.specs.Quantities.{cost_of}
use Rattle.multipliers.specs.Priced.{IsPriced}
use Rattle.multipliers.specs.Quantities.{reduced_cost}
use Rattle.safe_bound.specs.declared.bounds.Bound.{Bound}
use Rattle.safe_bound.specs.declared.bounds.Bound.TheVariants.{Value, NoPaths}
use Rattle.safe_bound.specs.Bounds.{AreLeasts, IsUnder}

-- one least for each graph, within 2^112 of 0 where there is one
abbrev pub IsLeastNear : Option ℤ → Type 0
IsLeastNear least = IfSome least (IsWithin (2 ^ 112))

pub record LeastsFit (spans : List Span) (leasts : List (Option ℤ)) : Type 0 where
  pub count : length leasts ≡ length spans
  pub each : All IsLeastNear leasts

-- a box of a path count: not empty, not below 0, and up to MAX_PATHS at most
pub record IsCountBox (span : Span) : Type 0 where
  pub low : pos 0 ≤ℤ span.low
  pub order : span.low ≤ℤ span.high
  pub high : IsWithin MAX_PATHS span.high

-- a bound within 2^125 of 0, if there is one
abbrev pub IsBoundNear : Bound → Type 0
IsBoundNear (Value b) = IsWithin (2 ^ 125) b
IsBoundNear (NoPaths g) = Unit {0}

-- whatever the multipliers that were priced: the bound is at most the scaled cost of each solution within the boxes of
-- whose walks these are leasts
abbrev pub BoundHolds : Priced → Boxes → List (Option ℤ) → Bound → Type 0
BoundHolds priced boxes leasts bound =
    (m : ModelParts) (cuts : List Cut) (mult : Mult) (plan : Plan) → ModelFits m → All CutFits cuts → length boxes.paths ≡ length m.graphs
    → IsPriced m cuts boxes mult priced → SolvesWithin m boxes plan → AreLeasts m cuts mult leasts plan → IsUnder bound (cost_of m plan)

-- and where such a solution costs less than z, each of its walks of graph g has a reduced cost of at most the limit
abbrev pub LimitHolds : Priced → Boxes → List (Option ℤ) → ℕ → ℤ → Option ℤ → Type 0
LimitHolds priced boxes leasts g z limit =
    (m : ModelParts) (cuts : List Cut) (mult : Mult) (plan : Plan) (i : ℕ) → ModelFits m → All CutFits cuts → length boxes.paths ≡ length m.graphs
    → IsPriced m cuts boxes mult priced → SolvesWithin m boxes plan → AreLeasts m cuts mult leasts plan → cost_of m plan <ℤ z
    → i < length plan.paths → (taken_at plan.paths i).graph ≡ g → IsAtMost limit (reduced_cost m cuts mult g (taken_at plan.paths i).arcs)
