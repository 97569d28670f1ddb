-- The model of a seed and a size.
use Rattle.std.specs.Prelude.{ℕ, pos, List, [], ◌∷◌, length, map, Some}
use Rattle.std.specs.List.{range_with_len}
use Rattle.path_graph.specs.declared.parts.GraphArc.{GraphArc}
use Rattle.path_graph.specs.Parts.{GraphParts, arcs_into}
use Rattle.route_model.specs.declared.parts.Var.{Var}
use Rattle.route_model.specs.declared.parts.RowTerm.{RowTerm}
use Rattle.route_model.specs.declared.parts.Row.{Row}
use Rattle.route_model.specs.Parts.{ModelParts}
use Rattle.vrp_demo.specs.declared.stops.Stop.{Stop}
use Rattle.vrp_demo.specs.Stops.{stops}
use Rattle.vrp_demo.specs.Arcs.{all_pairs, variable_over}
use Rattle.vrp_demo.specs.Network.{graph_over}

-- the variables of the arcs into a vertex sum to 1
abbrev pub term_of : ℕ → RowTerm
term_of arc = record { var = arc; coef = pos 1 }

abbrev pub row_into : List GraphArc → ℕ → Row
row_into arcs v = record { low = Some (pos 1); high = Some (pos 1); terms = map term_of (arcs_into arcs v) }

-- such a row for each customer, 1 to size
abbrev pub rows_over : ℕ → List GraphArc → List Row
rows_over size arcs = map (row_into arcs) (range_with_len 1 size)

-- arc k maps variable k alone
abbrev pub maps_of : ℕ → List (List ℕ)
maps_of arcs = map (λ k. k ∷ []) (range_with_len 0 arcs)

-- a model of one graph, whose arcs map a variable each
abbrev pub one_graph : ℕ → GraphParts → List Var → List Row → ModelParts
one_graph sets graph vars rows =
    record { vars = vars; rows = rows; sets = sets; graphs = graph ∷ []; maps = maps_of (length graph.arcs) ∷ [] }

-- the model over the stops at the vertices
abbrev pub model_over : ℕ → List Stop → ModelParts
model_over size stops =
    let graph = graph_over size stops in
    one_graph size graph (map (variable_over stops) (all_pairs size)) (rows_over size graph.arcs)

-- the model of a seed and a number of customers
unfoldable pub generated : ℕ → ℕ → ModelParts
generated seed size = model_over size (stops seed size)
