-- When the parts of a field fit, and what follows for the labels.
use Rattle.std.specs.Prelude.{◌≡◌, ◌<◌, IfSome, All, length}
use Rattle.route_model.specs.declared.multipliers.Mult.{Mult}
use Rattle.route_model.specs.Places.{IsSpotOf, SpotFits}
use Rattle.ng_sets.specs.Near.{FitsGraphs, graph_at}
use Rattle.multipliers.specs.Priced.{IsPriced}
use Rattle.multipliers.specs.Ranges.{CutsFit, MultFits}
use Rattle.label_rules.specs.Labels.{SettingFits}
use Rattle.label_rules.specs.Spaces.{CostsFit}
use Rattle.route_labels.specs.declared.field.Field.{Field}
use Rattle.route_labels.specs.Meaning.{arc_costs_of, setting_of}

-- the parts of a field fit: the graph is one of the model's, the place is one of the model, the cuts fit and have weights in
-- range, the near lists were made for the graphs, and the prices are those of some multipliers with these weights
pub record FieldFits (f : Field) : Type 0 where
  pub graph : f.graph < length f.model.now.graphs
  pub spot : SpotFits f.model.now f.spot.now
  pub mult : Mult
  pub mult_fits : MultFits f.model.now mult
  pub cuts : CutsFit f.cuts.now mult
  pub weights : mult.cuts ≡ f.y.now
  pub priced : IsPriced f.model.now f.cuts.now f.spot.now.boxes mult f.priced.now
  pub near : FitsGraphs f.near.now f.model.now.graphs

-- what the labels need of this: the laws hold, each number names a thing that is there, and the lists are as long as the
-- things of which they speak are many
pub record PartsAgree (f : Field) : Type 0 where
  pub setting : SettingFits (setting_of f)
  pub costs : CostsFit (setting_of f)
  pub graph : f.graph < length f.model.now.graphs
  pub spot : IsSpotOf f.model.now f.spot.now
  pub arcs : f.graph < length f.priced.now.arcs
  pub arc_costs : length (arc_costs_of f) ≡ length (setting_of f).graph.arcs
  pub starts : f.graph < length f.priced.now.starts
  pub sets : All (λ v. IfSome v.set (λ s. s < length f.priced.now.visits)) (setting_of f).graph.vertices
  pub near : f.graph < length f.near.now
  pub near_vertices : length (graph_at f.near.now f.graph) ≡ length (setting_of f).graph.vertices
  pub weights : length f.y.now ≡ length f.cuts.now
