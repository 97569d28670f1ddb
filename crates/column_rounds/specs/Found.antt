-- What rounds of column generation find at a place.
use Rattle.std.specs.Prelude.{◌≡◌, ℤ, Option, None, Some, [], IfSome}
use Rattle.line_text.specs.Items.{EachAfter}
use Rattle.route_model.specs.declared.places.Split.{Split}
use Rattle.route_model.specs.declared.places.Spot.{Spot}
use Rattle.route_model.specs.Parts.{ModelParts}
use Rattle.route_model.specs.PlaceParts.{SplitFits}
use Rattle.multipliers.specs.Ranges.{MultFits}
use Rattle.branch_tree.specs.Splits.{ArePoints}
use Rattle.certificate.specs.CertText.{NearMay}
use Rattle.certificate.specs.Sizes.{sizes_of}
use Rattle.made_nodes.specs.Better.{IsBetter}
use Rattle.column_rounds.specs.declared.found.Found.{Found}
use Rattle.column_rounds.specs.declared.found.FoundPlan.{FoundPlan}

-- a split of the place; none where every box is a point
abbrev pub IsSplitAt : ModelParts → Spot → Option Split → Type 0
IsSplitAt m spot None = ArePoints spot.boxes
IsSplitAt m spot (Some split) = SplitFits m spot split

-- a plan that costs less than the cost to beat
abbrev pub IsPlanBelow : ModelParts → ℤ → FoundPlan → Type 0
IsPlanBelow m z found = IsBetter m z (Some found.plan) found.cost

-- multipliers in their ranges, none of a cut; near lists that the text of a certificate can tell
pub record IsFound (m : ModelParts) (spot : Spot) (z : ℤ) (f : Found) : Type 0 where
  pub mult : MultFits m f.mult
  pub no_cuts : f.mult.cuts ≡ []
  pub near : EachAfter (NearMay (sizes_of m)) [] f.near
  pub split : IsSplitAt m spot f.split
  pub best : IfSome f.best (IsPlanBelow m z)
