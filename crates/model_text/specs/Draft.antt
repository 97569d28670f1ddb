-- What the lines of a model text tell so far.
use Rattle.std.specs.Prelude.{ℕ, List, [], ◌∷◌, ◌++◌, length, map, Bool, true, false, ◌==◌, if◌then◌else◌}
use Rattle.path_graph.specs.declared.parts.Vertex.{Vertex}
use Rattle.path_graph.specs.declared.parts.GraphArc.{GraphArc}
use Rattle.path_graph.specs.declared.parts.Ends.{Ends}
use Rattle.path_graph.specs.Walk.{GraphParts}
use Rattle.path_graph.specs.Fit.{PartsFit}
use Rattle.route_model.specs.Parts.{ModelParts}
use Rattle.model_text.specs.declared.draft.Stage.{Stage}
use Rattle.model_text.specs.declared.draft.Stage.TheVariants.{Opening, Vertices, Arcs}
use Rattle.model_text.specs.declared.draft.Section.{Section}
use Rattle.model_text.specs.declared.draft.Draft.{Draft}

-- a graph of which the graph line alone is read
abbrev pub begun_section : ℕ → Ends → Section
begun_section count ends = record { count = count; ends = ends; vertices = []; arcs = []; maps = [] }

-- nothing is read
abbrev pub no_section : Section
no_section = begun_section 0 (record { source = 0; sink = 0; low = 0; high = 0; mains = 0; seconds = 0 })

abbrev pub empty_draft : Draft
empty_draft =
    record { stage = Opening; vars = []; rows = []; sets = 0; done = []; current = no_section; end = 0 }

-- the graph with one more vertex, or with one more arc and its variables
abbrev pub with_vertex : Section → Vertex → Section
with_vertex s v = record s { vertices = s.vertices ++ v ∷ [] }

abbrev pub with_arc : Section → GraphArc → List ℕ → Section
with_arc s arc vars = record s { arcs = s.arcs ++ arc ∷ []; maps = s.maps ++ vars ∷ [] }

-- arcs follow where the graph has all its vertices
abbrev pub stage_in : Section → Stage
stage_in s = if length s.vertices == s.count then Arcs else Vertices

abbrev pub in_section : Draft → Section → Draft
in_section d s = record d { stage = stage_in s; current = s }

-- no line with words is read
abbrev pub is_opening : Stage → Bool
is_opening Opening = true
is_opening _ = false

-- the lines of a graph are read
abbrev pub is_in_graph : Stage → Bool
is_in_graph Vertices = true
is_in_graph Arcs = true
is_in_graph _ = false

-- all graphs so far
abbrev pub sections_of : Draft → List Section
sections_of d = if is_in_graph d.stage then d.done ++ d.current ∷ [] else d.done

abbrev pub graph_of : Section → GraphParts
graph_of s = record { ends = s.ends; vertices = s.vertices; arcs = s.arcs }

-- the parts as those of a model
abbrev pub parts_of : Draft → ModelParts
parts_of d =
    record {
      vars = d.vars;
      rows = d.rows;
      sets = d.sets;
      graphs = map graph_of (sections_of d);
      maps = map (λ s. s.maps) (sections_of d);
    }

-- the parts of a graph keep the limits of one
abbrev pub SectionPartsFit : Section → Type 0
SectionPartsFit s = PartsFit s.ends s.vertices s.arcs
