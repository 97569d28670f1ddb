-- Arcs without main consumption: the paths and cycles of such arcs, and the ranks of vertices.
use Rattle.std.specs.Prelude.{◌≡◌, ℕ, zero, suc, ◌<◌, ◌≤◌, max, pos, Bool, ◌&&◌, IsTrue, List, [], ◌∷◌, length, map, filter}
use Rattle.std.specs.Ordering.{int_eq}
use Rattle.path_graph.specs.declared.parts.GraphArc.{GraphArc}
use Rattle.path_graph.specs.Fit.{int_at}
use Rattle.path_graph.specs.Parts.{GraphParts, arc_at, arcs_into}

-- an arc is free: it consumes no main resource
abbrev pub is_free : GraphArc → Bool
is_free arc = int_eq (int_at arc.needs 0) (pos 0) && int_eq (int_at arc.needs 1) (pos 0)

-- free arcs lead from one vertex to the other: each begins where the one before it ends
abbrev pub IsFreePath : List GraphArc → ℕ → List ℕ → ℕ → Type 0
IsFreePath arcs v [] w = v ≡ w
IsFreePath arcs v (a ∷ rest) w =
    (a < length arcs) × IsTrue (is_free (arc_at arcs a)) × ((arc_at arcs a).tail ≡ v)
    × IsFreePath arcs (arc_at arcs a).head rest w

-- free arcs, at least one, lead from a vertex back to it
pub record IsFreeCycle (arcs : List GraphArc) (cycle : List ℕ) : Type 0 where
  pub vertex : ℕ
  pub some : 1 ≤ length cycle
  pub leads : IsFreePath arcs vertex cycle vertex

abbrev pub HasNoFreeCycle : List GraphArc → Type 0
HasNoFreeCycle arcs = (cycle : List ℕ) → IsFreeCycle arcs cycle → ⊥

-- the rank of a vertex: the longest free path that ends there has so many arcs
pub record IsRank (arcs : List GraphArc) (v rank : ℕ) : Type 0 where
  pub start : ℕ
  pub path : List ℕ
  pub leads : IsFreePath arcs start path v
  pub size : length path ≡ rank
  pub longest : (u : ℕ) (other : List ℕ) → IsFreePath arcs u other v → length other ≤ rank

-- the same number, computed: the most arcs, up to n, of a free path that ends at a vertex
abbrev pub greatest : List ℕ → ℕ
greatest [] = 0
greatest (x ∷ xs) = max x (greatest xs)

abbrev pub free_arcs_into : List GraphArc → ℕ → List ℕ
free_arcs_into arcs v = filter (λ a. is_free (arc_at arcs a)) (arcs_into arcs v)

abbrev pub free_depth : List GraphArc → ℕ → ℕ → ℕ
free_depth arcs zero v = 0
free_depth arcs (suc n) v =
    greatest (map (λ a. suc (free_depth arcs n (arc_at arcs a).tail)) (free_arcs_into arcs v))

abbrev pub rank_of : GraphParts → ℕ → ℕ
rank_of g v = free_depth g.arcs (length g.vertices) v
