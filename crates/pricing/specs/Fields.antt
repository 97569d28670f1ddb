-- What the labels of each graph see at a place, and when the parts of the place fit.
use Rattle.std.specs.Prelude.{◌≡◌, ℕ, List, [], slice_index_or}
use Rattle.path_graph.specs.declared.set_bits.SetBits.{SetBits}
use Rattle.path_graph.specs.Fit.{int_at}
use Rattle.rank1_cuts.specs.declared.cut.Cut.{Cut}
use Rattle.route_model.specs.declared.multipliers.Mult.{Mult}
use Rattle.route_model.specs.declared.multipliers.Priced.{Priced}
use Rattle.route_model.specs.declared.places.Spot.{Spot}
use Rattle.route_model.specs.Parts.{ModelParts, graph_in}
use Rattle.route_model.specs.Places.{SpotFits, shut_at}
use Rattle.ng_sets.specs.Near.{FitsGraphs, graph_at}
use Rattle.multipliers.specs.Priced.{IsPriced}
use Rattle.multipliers.specs.Ranges.{CutsFit, MultFits}
use Rattle.label_rules.specs.Labels.{Setting}
use Rattle.route_labels.specs.declared.field.Field.{Field}
use Rattle.pricing.specs.declared.fields.Place.{Place}

-- all that a label of graph g sees
abbrev pub setting_in : ModelParts → Spot → Priced → List (List SetBits) → List Cut → List ℕ → ℕ → Setting
setting_in m spot priced near cuts y g = record {
  graph = graph_in m.graphs g;
  near = graph_at near g;
  is_shut = shut_at m spot g;
  arc_cost = int_at (slice_index_or priced.arcs g []);
  set_cost = int_at priced.visits;
  start = int_at priced.starts g;
  cuts = cuts;
  weights = y;
}

-- the place is one of the model, the cuts fit and have weights in range, the near lists were made for the graphs, and the
-- prices are those of some multipliers with these weights
pub record PlaceFits (m : ModelParts) (spot : Spot) (priced : Priced) (near : List (List SetBits)) (cuts : List Cut) (y : List ℕ) : Type 0 where
  pub spot_fits : SpotFits m spot
  pub mult : Mult
  pub mult_fits : MultFits m mult
  pub cuts_fit : CutsFit cuts mult
  pub weights : mult.cuts ≡ y
  pub priced_is : IsPriced m cuts spot.boxes mult priced
  pub near_fits : FitsGraphs near m.graphs

-- what the labels of graph g are made from at a place
abbrev pub field_at : Place → ℕ → Field
field_at p g = record { model = p.model; graph = g; spot = p.spot; priced = p.priced; near = p.near; cuts = p.cuts; y = p.y }
