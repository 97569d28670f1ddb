-- When the parts of a row fit.
use Rattle.std.specs.Prelude.{◌≡◌, ℕ, ◌<◌, All, length}
use Rattle.path_graph.specs.First.{EachBelow}
use Rattle.route_model.specs.Places.{SpotFits}
use Rattle.ng_sets.specs.Near.{FitsGraphs}
use Rattle.multipliers.specs.Priced.{IsPriced}
use Rattle.multipliers.specs.Ranges.{AreInRange, CutsFit, MultFits}
use Rattle.concatenate.specs.Fit.{MayJoin}
use Rattle.route_labels.specs.declared.field.Field.{Field}
use Rattle.route_labels.specs.Meaning.{setting_of}
use Rattle.walk_list.specs.Listings.{table_at}
use Rattle.listing_tests.specs.declared.row.Row.{Row}

-- the place, the multipliers, the cuts, the near lists and the prices fit
pub record RowFits (r : Row) : Type 0 where
  pub spot_fits : SpotFits r.model.now r.spot.now
  pub weights : r.mult.now.cuts ≡ r.weights.now
  pub mult_fits : MultFits r.model.now r.mult.now
  pub cuts_fit : CutsFit r.cuts.now r.mult.now
  pub near_fits : FitsGraphs r.near.now r.model.now.graphs
  pub priced_is : IsPriced r.model.now r.cuts.now r.spot.now.boxes r.mult.now r.priced.now
  pub range : AreInRange r.spot.now.boxes r.priced.now

-- what the labels of a graph are made from
abbrev pub field_in : Row → ℕ → Field
field_in r g = record { model = r.model; graph = g; spot = r.spot; priced = r.priced; near = r.near; cuts = r.cuts; y = r.weights }

-- there is a table for each graph, whose labels of rests may be joined
pub record HaveRests (r : Row) : Type 0 where
  pub count : length r.tables.now ≡ length r.model.now.graphs
  pub each : EachBelow (length r.model.now.graphs) (λ g. All (MayJoin (setting_of (field_in r g))) (table_at r.tables.now g).back)
