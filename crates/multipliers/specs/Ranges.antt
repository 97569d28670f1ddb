-- What `priced` asks of multipliers and cuts, and the ranges of what it gives.
use Rattle.std.specs.Prelude.{◌≡◌, ◌^◌, ◌+◌, ◌≤◌, ℤ, pos, ◌≤ℤ◌, unsigned_abs, sum_by, List, length, All}
use Rattle.path_graph.specs.First.{EachBelow}
use Rattle.path_graph.specs.Fit.{int_at}
use Rattle.path_graph.specs.Within.{IsWithin}
use Rattle.rank1_cuts.specs.declared.cut.Cut.{Cut}
use Rattle.rank1_cuts.specs.Fit.{CutFits}
use Rattle.path_graph.specs.declared.limits.TheConstants.{MAX_PATHS}
use Rattle.route_model.specs.declared.limits.TheConstants.{MAX_GRAPHS, MAX_MULT}
use Rattle.route_model.specs.declared.multipliers.Mult.{Mult}
use Rattle.multipliers.specs.declared.base.TheConstants.{MAX_CUTS}
use Rattle.route_model.specs.declared.multipliers.Priced.{Priced}
use Rattle.route_model.specs.declared.places.Boxes.{Boxes}
use Rattle.route_model.specs.declared.places.Span.{Span}
use Rattle.route_model.specs.Parts.{ModelParts}
use Rattle.multipliers.specs.Priced.{reduced_unit}

-- one multiplier, within MAX_MULT of 0, for each variable, row, packing set and path count
pub record MultFits (m : ModelParts) (mult : Mult) : Type 0 where
  pub vars : length mult.vars ≡ length m.vars
  pub each_var : All (IsWithin MAX_MULT) mult.vars
  pub rows : length mult.rows ≡ length m.rows
  pub each_row : All (IsWithin MAX_MULT) mult.rows
  pub sets : length mult.sets ≡ m.sets
  pub each_set : All (IsWithin MAX_MULT) mult.sets
  pub paths : length mult.paths ≡ length m.graphs
  pub each_path : All (IsWithin MAX_MULT) mult.paths

-- at most MAX_CUTS cuts, each of which fits and has a multiplier, at most MAX_MULT below 0
pub record CutsFit (cuts : List Cut) (mult : Mult) : Type 0 where
  pub few : length cuts ≤ MAX_CUTS
  pub each : All CutFits cuts
  pub count : length mult.cuts ≡ length cuts
  pub each_mult : All (λ y. y ≤ MAX_MULT) mult.cuts

-- both ends are within 10^12 of 0
abbrev pub IsNear : Span → Type 0
IsNear span = IsWithin 1000000000000 span.low × IsWithin 1000000000000 span.high

-- the reduced costs of a unit of each variable
pub record AreUnits (m : ModelParts) (mult : Mult) (units : List ℤ) : Type 0 where
  pub count : length units ≡ length m.vars
  pub each : EachBelow (length m.vars) (λ j. int_at units j ≡ reduced_unit m mult j)
  pub small : EachBelow (length m.vars) (λ j. IsWithin (2 ^ 102) (int_at units j))

-- boxes of path counts: at most MAX_GRAPHS, none is empty or begins below 0, and their high ends sum to at most MAX_PATHS
pub record PathsFit (spans : List Span) : Type 0 where
  pub graphs : length spans ≤ MAX_GRAPHS
  pub each : All (λ span. (pos 0 ≤ℤ span.low) × (span.low ≤ℤ span.high)) spans
  pub few : sum_by (λ span. unsigned_abs span.high) spans ≤ MAX_PATHS

-- what priced numbers and the boxes that they are of keep
pub record AreInRange (boxes : Boxes) (p : Priced) : Type 0 where
  pub base : IsWithin (2 ^ 107) p.base
  pub arcs : All (All (IsWithin (2 ^ 72 + 2 ^ 53))) p.arcs
  pub visits : All (IsWithin MAX_MULT) p.visits
  pub starts : All (IsWithin MAX_MULT) p.starts
  pub paths : PathsFit boxes.paths
