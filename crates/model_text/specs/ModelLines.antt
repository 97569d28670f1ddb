-- The words of the lines of a model, with numbers in printed form.
use Rattle.std.specs.Prelude.{ℕ, List, [], ◌∷◌, ◌++◌, decimal, map, codes, length}
use Rattle.std.specs.List.{flat_map, zip}
use Rattle.std.specs.Fmt.{signed_decimal}
use Rattle.path_graph.specs.declared.parts.Vertex.{Vertex}
use Rattle.path_graph.specs.declared.parts.GraphArc.{GraphArc}
use Rattle.path_graph.specs.declared.parts.Ends.{Ends}
use Rattle.path_graph.specs.Walk.{GraphParts}
use Rattle.route_model.specs.declared.parts.Var.{Var}
use Rattle.route_model.specs.declared.parts.Row.{Row}
use Rattle.route_model.specs.Parts.{ModelParts}
use Rattle.model_text.specs.ModelText.{side_word, term_words, used, set_word, window_words}
use Rattle.line_text.specs.Words.{Words}

abbrev pub var_words : Var → Words
var_words v = codes "var" ∷ signed_decimal v.low ∷ signed_decimal v.high ∷ signed_decimal v.cost ∷ []

abbrev pub row_words : Row → Words
row_words row = codes "row" ∷ side_word row.low ∷ side_word row.high ∷ flat_map term_words row.terms

abbrev pub sets_words : ℕ → Words
sets_words sets = codes "sets" ∷ decimal sets ∷ []

abbrev pub graph_words : GraphParts → Words
graph_words g =
    codes "graph"
    ∷ decimal (length g.vertices) ∷ decimal g.ends.source ∷ decimal g.ends.sink ∷ decimal g.ends.low ∷ decimal g.ends.high
    ∷ decimal g.ends.mains ∷ decimal g.ends.seconds ∷ []

abbrev pub vertex_words : Ends → Vertex → Words
vertex_words ends v = codes "vertex" ∷ set_word v.set ∷ flat_map window_words (used ends v.windows)

abbrev pub arc_words : Ends → GraphArc → List ℕ → Words
arc_words ends arc vars =
    codes "arc" ∷ decimal arc.tail ∷ decimal arc.head ∷ map signed_decimal (used ends arc.needs) ++ map decimal vars

-- a graph: its graph line, its vertices, its arcs with their variables
abbrev pub graph_lines : GraphParts → List (List ℕ) → List Words
graph_lines g maps =
    graph_words g ∷ map (vertex_words g.ends) g.vertices ++ map (λ p. arc_words g.ends p.0 p.1) (zip g.arcs maps)

-- the lines behind the version line, with these lines for the sets
abbrev pub model_lines : ModelParts → List Words → List Words
model_lines m sets =
    map var_words m.vars ++ map row_words m.rows ++ sets ++ flat_map (λ p. graph_lines p.0 p.1) (zip m.graphs m.maps)
    ++ (codes "end" ∷ []) ∷ []
