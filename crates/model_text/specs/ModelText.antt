-- The printed text of a model.
use Rattle.std.specs.Prelude.{ℕ, ℤ, List, [], ◌∷◌, ◌++◌, Option, None, Some, decimal, map, codes, length, take, drop, ◌==◌, if◌then◌else◌}
use Rattle.std.specs.List.{flat_map, zip}
use Rattle.std.specs.Fmt.{signed_decimal}
use Rattle.path_graph.specs.declared.parts.Window.{Window}
use Rattle.path_graph.specs.declared.parts.Vertex.{Vertex}
use Rattle.path_graph.specs.declared.parts.GraphArc.{GraphArc}
use Rattle.path_graph.specs.declared.parts.Ends.{Ends}
use Rattle.path_graph.specs.Walk.{GraphParts}
use Rattle.route_model.specs.declared.parts.Var.{Var}
use Rattle.route_model.specs.declared.parts.RowTerm.{RowTerm}
use Rattle.route_model.specs.declared.parts.Row.{Row}
use Rattle.route_model.specs.Parts.{ModelParts}
use Rattle.line_text.specs.Spelling.{line}

-- `var LOW HIGH COST`
abbrev pub var_line : Var → List ℕ
var_line v = line (codes "var") (signed_decimal v.low ∷ signed_decimal v.high ∷ signed_decimal v.cost ∷ [])

-- a side of a row: `*` where it is open
abbrev pub side_word : Option ℤ → List ℕ
side_word None = codes "*"
side_word (Some side) = signed_decimal side

abbrev pub term_words : RowTerm → List (List ℕ)
term_words t = decimal t.var ∷ signed_decimal t.coef ∷ []

-- `row LOW HIGH`, then `VARIABLE COEFFICIENT` for each term
abbrev pub row_line : Row → List ℕ
row_line row = line (codes "row") (side_word row.low ∷ side_word row.high ∷ flat_map term_words row.terms)

-- `sets NUMBER`, and no line where there is no set
abbrev pub sets_line : ℕ → List ℕ
sets_line sets = if sets == 0 then [] else line (codes "sets") (decimal sets ∷ [])

-- `graph VERTICES SOURCE SINK LOWPATHS HIGHPATHS MAINS SECONDARIES`
abbrev pub graph_line : GraphParts → List ℕ
graph_line g =
    line (codes "graph")
    (decimal (length g.vertices) ∷ decimal g.ends.source ∷ decimal g.ends.sink ∷ decimal g.ends.low ∷ decimal g.ends.high
    ∷ decimal g.ends.mains ∷ decimal g.ends.seconds ∷ [])

-- what stands at the positions that have a resource: the main ones from 0, then the secondary ones from 2
abbrev pub used : {X : Type 0} → Ends → List X → List X
used ends xs = take ends.mains xs ++ take ends.seconds (drop 2 xs)

-- the set of a vertex: `-` where it is in none
abbrev pub set_word : Option ℕ → List ℕ
set_word None = codes "-"
set_word (Some s) = decimal s

abbrev pub window_words : Window → List (List ℕ)
window_words w = signed_decimal w.low ∷ signed_decimal w.high ∷ []

-- `vertex SET`, then `LOW HIGH` for each resource
abbrev pub vertex_line : Ends → Vertex → List ℕ
vertex_line ends v = line (codes "vertex") (set_word v.set ∷ flat_map window_words (used ends v.windows))

-- `arc TAIL HEAD`, then a consumption for each resource, then the mapped variables
abbrev pub arc_line : Ends → GraphArc → List ℕ → List ℕ
arc_line ends arc vars =
    line (codes "arc") (decimal arc.tail ∷ decimal arc.head ∷ map signed_decimal (used ends arc.needs) ++ map decimal vars)

-- a graph with the variables of its arcs
abbrev pub graph_text : GraphParts → List (List ℕ) → List ℕ
graph_text g maps =
    graph_line g ++ flat_map (vertex_line g.ends) g.vertices
    ++ flat_map (λ p. arc_line g.ends p.0 p.1) (zip g.arcs maps)

-- the version, the variables, the rows, the sets, the graphs, the end
abbrev pub model_text : ModelParts → List ℕ
model_text m =
    line (codes "vrpmodel") (codes "1" ∷ [])
    ++ flat_map var_line m.vars
    ++ flat_map row_line m.rows
    ++ sets_line m.sets
    ++ flat_map (λ p. graph_text p.0 p.1) (zip m.graphs m.maps)
    ++ line (codes "end") []
