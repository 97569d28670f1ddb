-- What the labels of a field see.
use Rattle.std.specs.Prelude.{ℤ, List, [], slice_index_or}
use Rattle.path_graph.specs.Fit.{int_at}
use Rattle.route_model.specs.Parts.{graph_in}
use Rattle.route_model.specs.Places.{shut_at}
use Rattle.ng_sets.specs.Near.{graph_at}
use Rattle.label_rules.specs.Labels.{Setting}
use Rattle.route_labels.specs.declared.field.Field.{Field}

-- the reduced costs of the arcs of the graph
abbrev pub arc_costs_of : Field → List ℤ
arc_costs_of f = slice_index_or f.priced.now.arcs f.graph []

-- all that a label of the field sees
abbrev pub setting_of : Field → Setting
setting_of f = record {
  graph = graph_in f.model.now.graphs f.graph;
  near = graph_at f.near.now f.graph;
  is_shut = shut_at f.model.now f.spot.now f.graph;
  arc_cost = int_at (arc_costs_of f);
  set_cost = int_at f.priced.now.visits;
  start = int_at f.priced.now.starts f.graph;
  cuts = f.cuts.now;
  weights = f.y.now;
}
