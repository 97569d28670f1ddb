-- The limits of the parts of a graph.
use Rattle.std.specs.Prelude.{◌≡◌, ◌≢◌, ℕ, ◌+◌, ◌<◌, ◌≤◌, ℤ, pos, neg_ℤ, ◌≤ℤ◌, Bool, nat_lt, if◌then◌else◌, MatchBool, List, length, All, EachIndex, slice_index_or, None, IfSome, []}
use Rattle.path_graph.specs.declared.limits.TheConstants.{MAX_VERTICES, MAX_ARCS, MAX_PATHS, MAX_SETS, MAX_AMOUNT}
use Rattle.path_graph.specs.declared.parts.Window.{Window}
use Rattle.path_graph.specs.declared.parts.Vertex.{Vertex}
use Rattle.path_graph.specs.declared.parts.GraphArc.{GraphArc}
use Rattle.path_graph.specs.declared.parts.Ends.{Ends}

-- what is said of a number of a list, and of a window; nothing is said past the end
abbrev pub int_at : List ℤ → ℕ → ℤ
int_at xs k = slice_index_or xs k (pos 0)

abbrev pub window_at : List Window → ℕ → Window
window_at ws k = slice_index_or ws k (record { low = pos 0; high = pos 0 })

-- whether a position has a resource: 0 and 1 are main, 2 to 5 secondary
abbrev pub is_used_at : Ends → ℕ → Bool
is_used_at ends k = if nat_lt k 2 then nat_lt k ends.mains else nat_lt k (2 + ends.seconds)

-- a window in its limits, or 0..0 where there is no resource
abbrev pub WindowFits : Bool → Window → Type 0
WindowFits used w = MatchBool used
    (((neg_ℤ MAX_AMOUNT) ≤ℤ w.low) × (w.low ≤ℤ w.high) × (w.high ≤ℤ MAX_AMOUNT))
    ((w.low ≡ pos 0) × (w.high ≡ pos 0))

-- a consumption in its limits, not negative where the resource is main
abbrev pub NeedFits : Bool → Bool → ℤ → Type 0
NeedFits used main q = MatchBool used
    (MatchBool main (pos 0 ≤ℤ q) ((neg_ℤ MAX_AMOUNT) ≤ℤ q) × (q ≤ℤ MAX_AMOUNT))
    (q ≡ pos 0)

abbrev pub WindowsFit : Ends → List Window → Type 0
WindowsFit ends ws = EachIndex ws (λ k. WindowFits (is_used_at ends k) (window_at ws k))

abbrev pub NeedsFit : Ends → List ℤ → Type 0
NeedsFit ends qs = EachIndex qs (λ k. NeedFits (is_used_at ends k) (nat_lt k 2) (int_at qs k))

-- a set in range, if any, and a window at each of the six positions
pub record VertexFits (ends : Ends) (v : Vertex) : Type 0 where
  pub set : IfSome v.set (λ s. s < MAX_SETS)
  pub places : length v.windows ≡ 6
  pub windows : WindowsFit ends v.windows

-- an arc between two vertices that are there, not into the source and not out of the sink
pub record ArcFits (ends : Ends) (count : ℕ) (arc : GraphArc) : Type 0 where
  pub tail : arc.tail < count
  pub head : arc.head < count
  pub not_in : arc.head ≢ ends.source
  pub not_out : arc.tail ≢ ends.sink
  pub places : length arc.needs ≡ 6
  pub needs : NeedsFit ends arc.needs

pub record EndsFit (ends : Ends) (count : ℕ) : Type 0 where
  pub source : ends.source < count
  pub sink : ends.sink < count
  pub different : ends.source ≢ ends.sink
  pub paths : ends.low ≤ ends.high
  pub most_paths : ends.high ≤ MAX_PATHS
  pub some_main : 1 ≤ ends.mains
  pub mains : ends.mains ≤ 2
  pub seconds : ends.seconds ≤ 4

abbrev pub vertex_at : List Vertex → ℕ → Vertex
vertex_at vs v = slice_index_or vs v (record { set = None; windows = [] })

-- the parts are those of a graph
pub record PartsFit (ends : Ends) (vertices : List Vertex) (arcs : List GraphArc) : Type 0 where
  pub some_vertices : 2 ≤ length vertices
  pub few_vertices : length vertices ≤ MAX_VERTICES
  pub few_arcs : length arcs ≤ MAX_ARCS
  pub ends_fit : EndsFit ends (length vertices)
  pub source_free : (vertex_at vertices ends.source).set ≡ None
  pub sink_free : (vertex_at vertices ends.sink).set ≡ None
  pub each_vertex : All (VertexFits ends) vertices
  pub each_arc : All (ArcFits ends (length vertices)) arcs
