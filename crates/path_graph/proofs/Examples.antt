-- Worked facts about the definitions, on a graph of four vertices: 0 is the source, 3 the sink, and the arcs go from the source to each of the two in the middle, between these either way, and on to the sink.
use Rattle.std.proofs.Common.{◌≡◌, ℕ, ℤ, pos, neg_ℤ, List, [], ◌∷◌, true, false, refl, None, arith}
use Rattle.path_graph.specs.declared.parts.Window.{Window}
use Rattle.path_graph.specs.declared.parts.Vertex.{Vertex}
use Rattle.path_graph.specs.declared.parts.GraphArc.{GraphArc}
use Rattle.path_graph.specs.declared.parts.Values.{Values}
use Rattle.path_graph.specs.Parts.{GraphParts, arcs_from, arcs_into}
use Rattle.path_graph.specs.Free.{is_free, IsFreePath, rank_of}
use Rattle.path_graph.specs.Walk.{root_of, over_of, values_at_end}
use Rattle.path_graph.specs.Rest.{end_of, back_of}
use Rattle.path_graph.specs.Level.{level_of}

main : ℤ → List ℤ
main x = x ∷ pos 0 ∷ pos 0 ∷ pos 0 ∷ pos 0 ∷ pos 0 ∷ []

arc : ℕ → ℕ → ℤ → GraphArc
unfolding main
arc t h q = record { tail = t; head = h; needs = main q }

middle : ℤ → List GraphArc
unfolding arc main
middle q = arc 0 1 (pos 1) ∷ arc 0 2 (pos 1) ∷ arc 1 2 q ∷ arc 2 1 (pos 1) ∷ arc 1 3 (pos 0) ∷ arc 2 3 (pos 0) ∷ []

vertex : Vertex
vertex =
    let free : Window = record { low = pos 0; high = pos 0 } in
    record { set = None; windows = record { low = pos 0; high = pos 2 } ∷ free ∷ free ∷ free ∷ free ∷ free ∷ [] }

-- the arc from 1 to 2 has the need q
graph : ℤ → GraphParts
unfolding middle arc main vertex
graph q =
    record {
      ends = record { source = 0; sink = 3; low = 0; high = 2; mains = 1; seconds = 0 };
      vertices = vertex ∷ vertex ∷ vertex ∷ vertex ∷ [];
      arcs = middle q;
    }

value : ℤ → Values
unfolding main
value x = record { at = main x }

arcs_at_vertices : (arcs_from (graph (pos 1)).arcs 1 ≡ 2 ∷ 4 ∷ []) × (arcs_into (graph (pos 1)).arcs 1 ≡ 0 ∷ 3 ∷ []) × (arcs_from (graph (pos 1)).arcs 3 ≡ [])
unfolding graph middle arc main vertex
arcs_at_vertices = (refl, refl, refl)

free_arcs : (is_free (arc 1 3 (pos 0)) ≡ true) × (is_free (arc 1 2 (pos 1)) ≡ false)
unfolding arc main
free_arcs = (refl, refl)

ranks_where_all_consume : (rank_of (graph (pos 1)) 2 ≡ 0) × (rank_of (graph (pos 1)) 3 ≡ 1)
unfolding graph middle arc main vertex
ranks_where_all_consume = (refl, refl)

ranks_over_a_free_arc : (rank_of (graph (pos 0)) 1 ≡ 0) × (rank_of (graph (pos 0)) 2 ≡ 1) × (rank_of (graph (pos 0)) 3 ≡ 2)
unfolding graph middle arc main vertex
ranks_over_a_free_arc = (refl, refl, refl)

values_forward : (root_of (graph (pos 1)) ≡ value (pos 0)) × (over_of (graph (pos 1)) (value (pos 1)) 2 ≡ value (pos 2)) × (values_at_end (graph (pos 1)) (value (pos 0)) (0 ∷ 2 ∷ 5 ∷ []) ≡ value (pos 2))
unfolding graph middle arc main vertex value
values_forward = (refl, refl, refl)

-- over arc 5 from value 2 the value is 2, over arc 4 from 1 it is 1, and over arc 2 from 2 it is 1
values_backward : (end_of (graph (pos 1)) ≡ value (pos 2)) × (back_of (graph (pos 1)) (value (pos 2)) 5 ≡ value (pos 2)) × (back_of (graph (pos 1)) (value (pos 1)) 4 ≡ value (pos 1)) × (back_of (graph (pos 1)) (value (pos 2)) 2 ≡ value (pos 1))
unfolding graph middle arc main vertex value
values_backward = (refl, refl, refl, refl)

-- a need below 0 gives no more than the window holds
value_at_high_end : back_of (graph (neg_ℤ (pos 1))) (value (pos 2)) 2 ≡ value (pos 2)
unfolding graph middle arc main vertex value
value_at_high_end = refl

levels : (level_of (graph (pos 1)) 1 (value (pos 1)) ≡ pos 4) × (level_of (graph (pos 0)) 2 (value (pos 1)) ≡ pos 5)
unfolding graph middle arc main vertex value
levels = (refl, refl)

-- arcs 2 and 3 lead round where neither consumes
round : IsFreePath (arc 1 2 (pos 0) ∷ arc 2 1 (pos 0) ∷ []) 1 (0 ∷ 1 ∷ []) 1
unfolding arc main
round = (omega arith, refl, refl, (omega arith, refl, refl, refl))
