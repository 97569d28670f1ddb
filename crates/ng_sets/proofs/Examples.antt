-- Worked rows of the definitions, by computing.
use Rattle.std.proofs.Common.{◌≡◌, ℕ, ◌<◌, ◌≤◌, ◌&&◌, ◌||◌, Bool, true, false, List, [], ◌∷◌, Option, None, Some, refl, sym, ◌∙◌, inl, inr, arith}
use Rattle.std.specs.Prelude.{IfSome}
use Rattle.std.proofs.lemmas.Bool.{agree_below, agree_below_at, cases_lt, le-ltb, ne_eqb}
use Rattle.path_graph.specs.declared.set_bits.SetBits.{SetBits}
use Rattle.path_graph.specs.declared.parts.GraphArc.{GraphArc}
use Rattle.path_graph.specs.declared.parts.Vertex.{Vertex}
use Rattle.path_graph.specs.SetBits.{has_set}
use Rattle.path_graph.specs.Walk.{GraphParts}
use Rattle.path_graph.proofs.SetBitsLemmas.{has_past}
use Rattle.ng_sets.specs.Memory.{IsRemembered, is_visited, Remembers}
use Rattle.ng_sets.specs.Near.{near_at, IsVertex, FitsGraphs, HasShape}
use Rattle.ng_sets.specs.Widening.{ComesBack, IsBetween, count_below, has_grown}

abbrev sets_of : ℕ → SetBits
sets_of word = record { bits = word ∷ 0 ∷ 0 ∷ 0 ∷ 0 ∷ 0 ∷ 0 ∷ 0 ∷ [] }

-- memory 0 and 2; near 0 and 1
abbrev memory : SetBits
memory = sets_of 5

abbrev near : SetBits
near = sets_of 3

abbrev kept : Option ℕ → ℕ → Bool
kept set k = (has_set memory k && has_set near k) || is_visited set k

no_member : (sets : SetBits) (k : ℕ) → 512 ≤ k → has_set sets k ≡ false
no_member sets k past = sym (has_past sets k past) ∙ le-ltb k 512 past

not_visited : (set : Option ℕ) (k : ℕ) → IfSome set (λ s. s < 512) → 512 ≤ k → is_visited set k ≡ false
not_visited None k fits past = refl
not_visited (Some s) k fits past = ne_eqb k s (λ e. omega arith)

-- what computes below 512 holds of each number
row : (set : Option ℕ) (after : SetBits) → IfSome set (λ s. s < 512) → agree_below (has_set after) (kept set) 512 ≡ true → Remembers memory near set after
row set after fits agree k = elim (cases_lt k 512) [
  | inl below ↦ agree_below_at (has_set after) (kept set) 512 k agree below
  | inr past ↦ no_member after k past ∙ sym (rw (no_member memory k past, not_visited set k fits past) refl)
]

-- set 1 leaves 0 and 1
visit_one : Remembers memory near (Some 1) (sets_of 3)
unfolding has_set
visit_one = row (Some 1) (sets_of 3) (omega arith) refl

-- set 2 is refused
visit_two : IsRemembered memory (Some 2)
unfolding has_set
visit_two = refl

-- set 1 is not
visit_one_taken : ¬ (IsRemembered memory (Some 1))
unfolding has_set
visit_one_taken h = cc

-- no set leaves 0
visit_none : Remembers memory near None (sets_of 1)
unfolding has_set
visit_none = row None (sets_of 1) tt refl

visit_none_taken : ¬ (IsRemembered memory None)
visit_none_taken h = h

-- set 511, the greatest, leaves 0 and 511
visit_last : Remembers memory near (Some 511) (record { bits = 1 ∷ 0 ∷ 0 ∷ 0 ∷ 0 ∷ 0 ∷ 0 ∷ 9223372036854775808 ∷ [] })
unfolding has_set
visit_last = row (Some 511) (record { bits = 1 ∷ 0 ∷ 0 ∷ 0 ∷ 0 ∷ 0 ∷ 0 ∷ 9223372036854775808 ∷ [] }) (omega arith) refl

-- two graphs, of two vertices and of one
abbrev lists : List (List SetBits)
lists = (sets_of 0 ∷ sets_of 3 ∷ []) ∷ (sets_of 4 ∷ []) ∷ []

second_vertex : near_at lists 0 1 ≡ sets_of 3
second_vertex = refl

second_graph : near_at lists 1 0 ≡ sets_of 4
second_graph = refl

is_vertex : IsVertex lists 1 0
is_vertex = (omega arith, omega arith)

no_vertex : ¬ (IsVertex lists 1 1)
no_vertex h = omega (arith, h.1)

shapes : HasShape lists ((sets_of 1 ∷ sets_of 2 ∷ []) ∷ (sets_of 8 ∷ []) ∷ [])
shapes = refl

abbrev graph_of : List Vertex → GraphParts
graph_of vertices = record { ends = record { source = 0; sink = 1; low = 0; high = 1; mains = 1; seconds = 0 }; vertices = vertices; arcs = [] }

abbrev vertex : Vertex
vertex = record { set = None; windows = [] }

fits : FitsGraphs lists (graph_of (vertex ∷ vertex ∷ []) ∷ graph_of (vertex ∷ []) ∷ [])
fits = refl

-- a walk that comes back to set 0 by way of another vertex: vertices 0 to 3, arcs 0 → 1 → 2 → 1 → 3
abbrev in_set : ℕ → Vertex
in_set s = record { set = Some s; windows = [] }

abbrev arc_from : ℕ → ℕ → GraphArc
arc_from tail head = record { tail = tail; head = head; needs = [] }

abbrev returning : GraphParts
returning = record {
  ends = record { source = 0; sink = 3; low = 0; high = 1; mains = 1; seconds = 0 };
  vertices = vertex ∷ in_set 0 ∷ in_set 1 ∷ vertex ∷ [];
  arcs = arc_from 0 1 ∷ arc_from 1 2 ∷ arc_from 2 1 ∷ arc_from 1 3 ∷ [];
}

-- its third visit is the first to a set that was visited before, and vertex 2 alone stands between
comes_back : ComesBack returning (0 ∷ 1 ∷ 2 ∷ 3 ∷ []) 0 2 0
comes_back = record { before = omega arith; first = refl; second = refl }

between : IsBetween returning (0 ∷ 1 ∷ 2 ∷ 3 ∷ []) 0 2 2
between = (1, omega arith, omega arith, refl)

-- set 0 was near no vertex, and now is near vertex 2: one list grew; the second time none does
one_grew : count_below 4 (has_grown ((sets_of 0 ∷ sets_of 0 ∷ sets_of 0 ∷ sets_of 0 ∷ []) ∷ []) ((sets_of 0 ∷ sets_of 0 ∷ sets_of 1 ∷ sets_of 0 ∷ []) ∷ []) 0 0) ≡ 1
unfolding has_set
one_grew = refl

none_grew : count_below 4 (has_grown ((sets_of 0 ∷ sets_of 0 ∷ sets_of 1 ∷ sets_of 0 ∷ []) ∷ []) ((sets_of 0 ∷ sets_of 0 ∷ sets_of 1 ∷ sets_of 0 ∷ []) ∷ []) 0 0) ≡ 0
unfolding has_set
none_grew = refl
