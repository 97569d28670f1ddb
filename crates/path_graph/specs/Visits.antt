-- The packing sets that a walk visits: those of the vertices that its arcs enter, in order.
use Rattle.std.specs.Prelude.{ℕ, Bool, false, Option, None, Some, List, map, count_by, ◌==◌}
use Rattle.path_graph.specs.Fit.{vertex_at}
use Rattle.path_graph.specs.Walk.{GraphParts, arc_at}

-- the set of the vertex that an arc enters; none where that vertex is in no set
abbrev pub visit_over : GraphParts → ℕ → Option ℕ
visit_over g a = (vertex_at g.vertices (arc_at g.arcs a).head).set

-- the visits along arcs
abbrev pub visits_along : GraphParts → List ℕ → List (Option ℕ)
visits_along g arcs = map (visit_over g) arcs

-- a visit is one of the set
abbrev pub is_visit : ℕ → Option ℕ → Bool
is_visit s None = false
is_visit s (Some i) = i == s

-- how often a list of visits has the set
abbrev pub visit_count : ℕ → List (Option ℕ) → ℕ
visit_count s visits = count_by (is_visit s) visits
