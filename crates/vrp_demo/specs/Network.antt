-- The graph: source, customers and sink.
use Rattle.std.specs.Prelude.{ℕ, ◌+◌, ◌-◌, pos, List, [], ◌∷◌, map, Option, Some, None, if◌then◌else◌}
use Rattle.std.specs.List.{range_with_len}
use Rattle.path_graph.specs.declared.parts.Window.{Window}
use Rattle.path_graph.specs.declared.parts.Vertex.{Vertex}
use Rattle.path_graph.specs.declared.parts.Ends.{Ends}
use Rattle.path_graph.specs.Parts.{GraphParts}
use Rattle.vrp_demo.specs.declared.stops.Stop.{Stop}
use Rattle.vrp_demo.specs.Stops.{is_customer}
use Rattle.vrp_demo.specs.Arcs.{all_pairs, arc_over}

-- customer i is in set i - 1
abbrev pub set_of : ℕ → ℕ → Option ℕ
set_of size v = if is_customer size v then Some (v - 1) else None

abbrev pub window_to : ℕ → Window
window_to high = record { low = pos 0; high = pos high }

-- one main resource with window 0 to 10; the other positions have no resource
abbrev pub vertex_of : ℕ → ℕ → Vertex
vertex_of size v =
    record {
      set = set_of size v;
      windows = window_to 10 ∷ window_to 0 ∷ window_to 0 ∷ window_to 0 ∷ window_to 0 ∷ window_to 0 ∷ [];
    }

abbrev pub vertices : ℕ → List Vertex
vertices size = map (vertex_of size) (range_with_len 0 (size + 2))

-- 0 to size paths from vertex 0 to vertex size + 1
abbrev pub ends_of : ℕ → Ends
ends_of size = record { source = 0; sink = size + 1; low = 0; high = size; mains = 1; seconds = 0 }

abbrev pub graph_over : ℕ → List Stop → GraphParts
graph_over size stops =
    record { ends = ends_of size; vertices = vertices size; arcs = map (arc_over stops) (all_pairs size) }
