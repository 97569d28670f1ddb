-- The kinds of lines of a model text: which may stand where, and what their words tell.
use Rattle.std.specs.Prelude.{ℕ, List, [], ◌∷◌, ◌++◌, length, codes, Bool, true, false, ◌||◌, not, nat_lt, if◌then◌else◌, Option, None, Some, sum_by}
use Rattle.std.specs.Str.{bytes_eq}
use Rattle.model_text.specs.declared.draft.Stage.{Stage}
use Rattle.model_text.specs.declared.draft.Stage.TheVariants.{Variables, Rows, Sets, Vertices, Arcs, Ended}
use Rattle.model_text.specs.declared.draft.Draft.{Draft}
use Rattle.model_text.specs.declared.line_kind.LineKind.{LineKind}
use Rattle.model_text.specs.declared.line_kind.LineKind.TheVariants as line
use Rattle.path_graph.specs.declared.limits.TheConstants.{MAX_ARCS}
use Rattle.route_model.specs.declared.limits.TheConstants.{MAX_VARS, MAX_ROWS, MAX_GRAPHS, MAX_ALL_ARCS}
use Rattle.line_text.specs.Words.{Words, Wants, ◌>>=◌, give}
use Rattle.model_text.specs.Draft.{no_section, begun_section, with_vertex, with_arc, in_section, sections_of}
use Rattle.model_text.specs.LineWords.{var_wanted, row_wanted, sets_wanted, graph_wanted, vertex_wanted, arc_wanted}

-- The words of the version line, which are the first words of a text.
abbrev pub version_words : Words
version_words = codes "vrpmodel" ∷ codes "1" ∷ []

-- The first word tells the kind of a line; none where it is unknown.
abbrev pub kind_of : List ℕ → Option LineKind
kind_of first =
    if bytes_eq first (codes "vrpmodel") then Some line.Version else
    (if bytes_eq first (codes "var") then Some line.Var else
    (if bytes_eq first (codes "row") then Some line.Row else
    (if bytes_eq first (codes "sets") then Some line.Sets else
    (if bytes_eq first (codes "graph") then Some line.Graph else
    (if bytes_eq first (codes "vertex") then Some line.Vertex else
    (if bytes_eq first (codes "arc") then Some line.Arc else
    (if bytes_eq first (codes "end") then Some line.End else None)))))))

-- Variables, then rows, then at most one sets line, then graphs, then the end.
-- A graph is its graph line, exactly its number of vertices, and then arcs.
abbrev pub may_stand : LineKind → Stage → Bool
may_stand line.Var Variables = true
may_stand line.Row Variables = true
may_stand line.Row Rows = true
may_stand line.Sets Variables = true
may_stand line.Sets Rows = true
may_stand line.Graph Variables = true
may_stand line.Graph Rows = true
may_stand line.Graph Sets = true
may_stand line.Graph Arcs = true
may_stand line.Vertex Vertices = true
may_stand line.Arc Arcs = true
may_stand line.End Variables = true
may_stand line.End Rows = true
may_stand line.End Sets = true
may_stand line.End Arcs = true
may_stand _ _ = false

-- One more line of the kind passes a limit: of variables, of rows, of graphs, of the arcs of a graph, of all arcs.
abbrev pub passes_limit : LineKind → Draft → Bool
passes_limit line.Var d = not (nat_lt (length d.vars) MAX_VARS)
passes_limit line.Row d = not (nat_lt (length d.rows) MAX_ROWS)
passes_limit line.Graph d = not (nat_lt (length (sections_of d)) MAX_GRAPHS)
passes_limit line.Arc d =
    not (nat_lt (length d.current.arcs) MAX_ARCS)
    || not (nat_lt (sum_by (λ s. length s.arcs) (sections_of d)) MAX_ALL_ARCS)
passes_limit _ d = false

-- the further words of a line of each kind, and what the lines tell with it; no version line stands behind the first
abbrev pub further_wanted : LineKind → Draft → ℕ → Wants Draft
further_wanted line.Version d number = give d
further_wanted line.Var d number = do
  var ← var_wanted
  give (record d { vars = d.vars ++ var ∷ [] })
further_wanted line.Row d number = do
  row ← row_wanted d.vars d.rows
  give (record d { stage = Rows; rows = d.rows ++ row ∷ [] })
further_wanted line.Sets d number = do
  sets ← sets_wanted
  give (record d { stage = Sets; sets = sets })
further_wanted line.Graph d number = do
  graph ← graph_wanted (sections_of d)
  give (record d { stage = Vertices; done = sections_of d; current = begun_section graph.0 graph.1 })
further_wanted line.Vertex d number = do
  vertex ← vertex_wanted d.sets d.current
  give (in_section d (with_vertex d.current vertex))
further_wanted line.Arc d number = do
  arc ← arc_wanted (length d.vars) d.current
  give (in_section d (with_arc d.current arc.0 arc.1))
further_wanted line.End d number =
    give (record d { stage = Ended; done = sections_of d; current = no_section; end = number })
