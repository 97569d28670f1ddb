-- A split of boxes is a split of each place that has these boxes.
use Rattle.std.proofs.Common.{◌≡◌, ℕ, ◌<◌, ℤ, sym, subst, arith}
use Rattle.route_model.specs.declared.multipliers.Quantity.{Quantity}
use Rattle.route_model.specs.declared.multipliers.Quantity.TheVariants.{Var, Row, Set, Cut, Paths}
use Rattle.route_model.specs.declared.places.Boxes.{Boxes}
use Rattle.route_model.specs.declared.places.Split.{Split}
use Rattle.route_model.specs.declared.places.Spot.{Spot}
use Rattle.route_model.specs.Parts.{ModelParts}
use Rattle.route_model.specs.PlaceParts.{SplitFits}
use Rattle.route_model.specs.Places.{IsSpotOf}
use Rattle.branch_tree.specs.Splits.{IsSplitOf, PartsBox}

fits_at : (m : ModelParts) (spot : Spot) (q : Quantity) (at : ℤ) → IsSpotOf m spot → PartsBox spot.boxes q at → SplitFits m spot (record { quantity = q; at = at })
fits_at m spot (Var j) at of parts = record { quantity = omega (arith, parts.there, of.vars); low = parts.low; high = parts.high }
fits_at m spot (Paths g) at of parts = record { quantity = omega (arith, parts.there, of.paths); low = parts.low; high = parts.high }
fits_at m spot (Row i) at of parts = absurd parts
fits_at m spot (Set s) at of parts = absurd parts
fits_at m spot (Cut c) at of parts = absurd parts

pub split_fits : (m : ModelParts) (spot : Spot) (boxes : Boxes) (split : Split) → spot.boxes ≡ boxes → IsSpotOf m spot → IsSplitOf boxes split → SplitFits m spot split
split_fits m spot boxes split same of parts =
    fits_at m spot split.quantity split.at of (subst (λ (b : Boxes). IsSplitOf b split) (sym same) parts)
