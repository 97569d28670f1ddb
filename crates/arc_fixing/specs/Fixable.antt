-- Which arcs may be dropped at a place against z.
use Rattle.std.specs.Prelude.{◌≡◌, ℕ, zero, suc, ◌^◌, ℤ, false, Option, None, List, [], ◌++◌, length, map, All, slice_index_or}
use Rattle.std.specs.List.{range_with_len}
use Rattle.path_graph.specs.declared.set_bits.SetBits.{SetBits}
use Rattle.path_graph.specs.First.{EachBelow}
use Rattle.path_graph.specs.Fit.{int_at}
use Rattle.path_graph.specs.Within.{IsWithin}
use Rattle.rank1_cuts.specs.declared.cut.Cut.{Cut}
use Rattle.route_model.specs.declared.multipliers.Mult.{Mult}
use Rattle.route_model.specs.declared.multipliers.Priced.{Priced}
use Rattle.route_model.specs.declared.places.Spot.{Spot}
use Rattle.route_model.specs.Parts.{ModelParts, graph_in}
use Rattle.route_model.specs.PlaceParts.{NamedArc}
use Rattle.route_model.specs.Places.{SpotFits, shut_at}
use Rattle.ng_sets.specs.Near.{FitsGraphs, graph_at}
use Rattle.multipliers.specs.Priced.{IsPriced}
use Rattle.multipliers.specs.Ranges.{AreInRange, CutsFit, MultFits}
use Rattle.safe_bound.specs.Bounds.{limit_of}
use Rattle.safe_bound.specs.Promise.{IsLeastNear}
use Rattle.label_rules.specs.declared.label.Label.{Label}
use Rattle.label_rules.specs.declared.table.Form.TheVariants as text
use Rattle.label_rules.specs.declared.table.ProofTable.{ProofTable}
use Rattle.label_rules.specs.Labels.{Backward, Forward, Setting}
use Rattle.label_rules.specs.Leasts.{AreAllAbove, Both, IsLeast}
use Rattle.label_rules.specs.Tables.{IsClosed}

-- all that labels are made from, but the graph: a place, prices, near lists, and cuts with their weights
pub record Parts : Type 0 where
  pub spot : Spot
  pub priced : Priced
  pub near : List (List SetBits)
  pub cuts : List Cut
  pub y : List ℕ

-- they fit as those of a field do: the place is one of the model, and the prices are those of some multipliers there
pub record PartsFit (m : ModelParts) (parts : Parts) : Type 0 where
  pub spot : SpotFits m parts.spot
  pub mult : Mult
  pub mult_fits : MultFits m mult
  pub cuts : CutsFit parts.cuts mult
  pub weights : mult.cuts ≡ parts.y
  pub priced : IsPriced m parts.cuts parts.spot.boxes mult parts.priced
  pub range : AreInRange parts.spot.boxes parts.priced
  pub near : FitsGraphs parts.near m.graphs

-- what the labels of a graph see
abbrev pub setting_by : ModelParts → Parts → ℕ → Setting
setting_by m parts g = record {
  graph = graph_in m.graphs g;
  near = graph_at parts.near g;
  is_shut = shut_at m parts.spot g;
  arc_cost = int_at (slice_index_or parts.priced.arcs g []);
  set_cost = int_at parts.priced.visits;
  start = int_at parts.priced.starts g;
  cuts = parts.cuts;
  weights = parts.y;
}

-- the table of a graph; nothing is said past the end
abbrev pub table_by : List ProofTable → ℕ → ProofTable
table_by tables g = slice_index_or tables g (record { graph = 0; form = text.Full; least = None; fore = []; back = [] })

-- costs within 2^112 of 0
abbrev pub AreNear : List Label → Type 0
AreNear labels = All (λ (l : Label). IsWithin (2 ^ 112) l.cost) labels

-- the table of a graph has both lists, which are closed, and its least, all within 2^112 of 0
pub record IsWholeTable (S : Setting) (g : ℕ) (t : ProofTable) : Type 0 where
  pub graph : t.graph ≡ g
  pub form : t.form ≡ text.Both
  pub fore : IsClosed Forward S None t.fore
  pub back : IsClosed Backward S None t.back
  pub least : IsLeast S Both t.fore t.back t.least
  pub fore_near : AreNear t.fore
  pub back_near : AreNear t.back
  pub least_near : IsLeastNear t.least

-- one such table for each graph, in order
pub record AreWholeTables (m : ModelParts) (parts : Parts) (tables : List ProofTable) : Type 0 where
  pub count : length tables ≡ length m.graphs
  pub each : EachBelow (length m.graphs) (λ g. IsWholeTable (setting_by m parts g) g (table_by tables g))

-- the limit of a walk of a graph against z
abbrev pub limit_by : ModelParts → Parts → List ProofTable → ℤ → ℕ → Option ℤ
limit_by m parts tables z g = limit_of (length m.graphs) parts.spot.boxes.paths (map (λ (t : ProofTable). t.least) tables) parts.priced.base g z

-- an arc that is not shut, and over which all joins are above the limit
pub record IsFixable (m : ModelParts) (parts : Parts) (tables : List ProofTable) (z : ℤ) (arc : NamedArc) : Type 0 where
  pub open_arc : shut_at m parts.spot arc.0 arc.1 ≡ false
  pub above : AreAllAbove (setting_by m parts arc.0) (table_by tables arc.0).fore (table_by tables arc.0).back (limit_by m parts tables z arc.0) arc.1

-- the arcs of the first graphs, by graph and then by number
abbrev pub arcs_in : ℕ → ℕ → List NamedArc
arcs_in g n = map (λ a. (g, a)) (range_with_len 0 n)

abbrev pub arcs_below : ModelParts → ℕ → List NamedArc
arcs_below m zero = []
arcs_below m (suc g) = arcs_below m g ++ arcs_in g (length (graph_in m.graphs g).arcs)
