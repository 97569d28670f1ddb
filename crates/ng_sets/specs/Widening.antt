-- Near lists that grow along a walk, so that it may no longer come back to a set.
use Rattle.std.specs.Prelude.{◌≡◌, ℕ, zero, suc, ◌+◌, ◌<◌, ◌&&◌, not, if◌then◌else◌, Bool, Option, Some, List, length, slice_index_or}
use Rattle.path_graph.specs.declared.set_bits.SetBits.{SetBits}
use Rattle.path_graph.specs.Fit.{vertex_at}
use Rattle.path_graph.specs.SetBits.{has_set, HasNoMember, IsWith}
use Rattle.path_graph.specs.Walk.{GraphParts, arc_at}
use Rattle.ng_sets.specs.Memory.{IsRemembered, Remembers}
use Rattle.ng_sets.specs.Near.{graph_at, near_at, HasShape}

-- the packing set that an arc enters
abbrev pub set_entered : GraphParts → ℕ → Option ℕ
set_entered graph a = (vertex_at graph.vertices (arc_at graph.arcs a).head).set

-- a walk visits the heads of its arcs: the vertex of a visit, by its place, and its packing set
abbrev pub visited : GraphParts → List ℕ → ℕ → ℕ
visited graph arcs k = (arc_at graph.arcs (slice_index_or arcs k 0)).head

abbrev pub set_visited : GraphParts → List ℕ → ℕ → Option ℕ
set_visited graph arcs k = set_entered graph (slice_index_or arcs k 0)

-- the visits at two places are to the same set
pub record ComesBack (graph : GraphParts) (arcs : List ℕ) (from to s : ℕ) : Type 0 where
  pub before : from < to
  pub first : set_visited graph arcs from ≡ Some s
  pub second : set_visited graph arcs to ≡ Some s

-- no visit before this place is to a set that was visited before
abbrev pub HasNoneBefore : GraphParts → List ℕ → ℕ → Type 0
HasNoneBefore graph arcs to = (i j s : ℕ) → j < to → ¬ (ComesBack graph arcs i j s)

-- some set is visited twice
abbrev pub VisitsTwice : GraphParts → List ℕ → Type 0
VisitsTwice graph arcs = (i : ℕ) × (j : ℕ) × (s : ℕ) × (j < length arcs) × ComesBack graph arcs i j s

-- the first visit to a set that was visited before, and the visit to this set before it, which is the only one and so the last
pub record IsFirstReturn (graph : GraphParts) (arcs : List ℕ) (from to s : ℕ) : Type 0 where
  pub within : to < length arcs
  pub back : ComesBack graph arcs from to s
  pub earliest : HasNoneBefore graph arcs to

-- the vertex is visited strictly between two places
abbrev pub IsBetween : GraphParts → List ℕ → ℕ → ℕ → ℕ → Type 0
IsBetween graph arcs from to v = (m : ℕ) × (from < m) × (m < to) × (visited graph arcs m ≡ v)

-- a set is put near the vertices between two places, and all else near any vertex stays
pub record AreWidened (graph : GraphParts) (g : ℕ) (arcs : List ℕ) (from to s : ℕ) (old new : List (List SetBits)) : Type 0 where
  pub shape : HasShape old new
  pub between : (m : ℕ) → from < m → m < to → IsWith (near_at old g (visited graph arcs m)) s (near_at new g (visited graph arcs m))
  pub others : (h v : ℕ) → ¬ ((h ≡ g) × IsBetween graph arcs from to v) → near_at new h v ≡ near_at old h v

-- whether the set is near the vertex now, and was not before
abbrev pub has_grown : List (List SetBits) → List (List SetBits) → ℕ → ℕ → ℕ → Bool
has_grown old new g s v = has_set (near_at new g v) s && not (has_set (near_at old g v) s)

-- how many numbers below n pass the test
abbrev pub count_below : ℕ → (ℕ → Bool) → ℕ
count_below zero test = 0
count_below (suc n) test = count_below n test + (if test n then 1 else 0)

-- the set to which the walk first comes back is put near the vertices between, and so many lists grew
pub record IsWidening (graph : GraphParts) (g : ℕ) (arcs : List ℕ) (old new : List (List SetBits)) (grown : ℕ) : Type 0 where
  pub from : ℕ
  pub to : ℕ
  pub set : ℕ
  pub back : IsFirstReturn graph arcs from to set
  pub lists : AreWidened graph g arcs from to set old new
  pub count : grown ≡ count_below (length graph.vertices) (has_grown old new g set)

-- there is one list for each vertex of the graph with this number
abbrev pub FitsGraph : List (List SetBits) → ℕ → GraphParts → Type 0
FitsGraph near g graph = (g < length near) × (length (graph_at near g) ≡ length graph.vertices)

-- memories along the visits of a walk, by the rule, each as long as no visit before it is refused
pub record AreMemories (near : List (List SetBits)) (graph : GraphParts) (g : ℕ) (arcs : List ℕ) (memory : ℕ → SetBits) : Type 0 where
  pub nothing : HasNoMember (memory 0)
  pub after : (k : ℕ) → k < length arcs → ¬ (IsRemembered (memory k) (set_visited graph arcs k))
      → Remembers (memory k) (near_at near g (visited graph arcs k)) (set_visited graph arcs k) (memory (suc k))

-- so some visit of the walk is refused
abbrev pub IsRefusedAlong : List (List SetBits) → GraphParts → ℕ → List ℕ → Type 0
IsRefusedAlong near graph g arcs = (memory : ℕ → SetBits) → AreMemories near graph g arcs memory
    → (k : ℕ) × (k < length arcs) × IsRemembered (memory k) (set_visited graph arcs k)
