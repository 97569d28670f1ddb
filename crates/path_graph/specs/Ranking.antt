-- How the search for ranks stands.
use Rattle.std.specs.Prelude.{◌≡◌, ◌≢◌, ℕ, ◌+◌, ◌^◌, ◌<◌, ◌≤◌, ◌⊎◌, ◌-◌, IsTrue, List, [], ◌∷◌, ◌++◌, length, slice_index, slice_index_or, slice_set, sum_by}
use Rattle.path_graph.specs.declared.parts.GraphArc.{GraphArc}
use Rattle.path_graph.specs.declared.ranking.Stage.{Stage}
use Rattle.path_graph.specs.declared.ranking.Stage.TheVariants.{New, Open, Ranked}
use Rattle.path_graph.specs.declared.ranking.Progress.{Progress}
use Rattle.path_graph.specs.declared.ranking.Ranking.{Ranking}
use Rattle.path_graph.specs.declared.fault.GraphFault.{GraphFault}
use Rattle.path_graph.specs.declared.fault.GraphFault.TheVariants.{FreeCycle, Memory}
use Rattle.path_graph.specs.Parts.{arc_at, arcs_into}
use Rattle.path_graph.specs.Free.{is_free, IsFreePath, IsFreeCycle, IsRank}

-- how far a vertex is ranked; nothing is said of a vertex past the end
abbrev pub progress_at : List Progress → ℕ → Progress
progress_at progress v = slice_index_or progress v (record { stage = New; next = 0; rank = 0 })

-- the longest free path into a vertex by one of the first so many arcs into it, or the path of no arc
pub record IsRankUpTo (arcs : List GraphArc) (next v rank : ℕ) : Type 0 where
  pub start : ℕ
  pub path : List ℕ
  pub leads : IsFreePath arcs start path v
  pub size : length path ≡ rank
  pub longest : (k u : ℕ) (other : List ℕ) → k < next
      → IsFreePath arcs u (other ++ slice_index (arcs_into arcs v) k ∷ []) v → length other < rank

pub record IsProgress (arcs : List GraphArc) (v : ℕ) (p : Progress) : Type 0 where
  pub within : p.next ≤ length (arcs_into arcs v)
  pub up_to : IsRankUpTo arcs p.next v p.rank
  pub ranked : p.stage ≡ Ranked → IsRank arcs v p.rank

abbrev pub AreProgress : List GraphArc → List Progress → Type 0
AreProgress arcs progress = (v : ℕ) → v < length progress → IsProgress arcs v (progress_at progress v)

-- free arcs lead back from a root to a vertex: each ends where the one before it begins
abbrev pub LeadsBack : List GraphArc → ℕ → List ℕ → ℕ → Type 0
LeadsBack arcs root [] v = root ≡ v
LeadsBack arcs root (a ∷ rest) v =
    (a < length arcs) × IsTrue (is_free (arc_at arcs a)) × ((arc_at arcs a).head ≡ root)
    × LeadsBack arcs (arc_at arcs a).tail rest v

-- the vertex is the root, or the tail of an arc of the path
abbrev pub IsOn : List GraphArc → ℕ → List ℕ → ℕ → Type 0
IsOn arcs root [] v = root ≡ v
IsOn arcs root (a ∷ rest) v = (root ≡ v) ⊎ IsOn arcs (arc_at arcs a).tail rest v

-- the search stands at a vertex, back from the root over the path; vertices that are open are on the path
pub record IsSearch (arcs : List GraphArc) (count : ℕ) (r : Ranking) : Type 0 where
  pub size : length r.progress ≡ count
  pub stands : r.vertex < count
  pub each : AreProgress arcs r.progress
  pub back : LeadsBack arcs r.root r.path r.vertex
  pub on_path : (v : ℕ) → v < count → (progress_at r.progress v).stage ≡ Open → IsOn arcs r.root r.path v

-- no search is under way
pub record IsResting (arcs : List GraphArc) (count : ℕ) (r : Ranking) : Type 0 where
  pub size : length r.progress ≡ count
  pub each : AreProgress arcs r.progress
  pub closed : (v : ℕ) → v < count → (progress_at r.progress v).stage ≢ Open
  pub no_path : r.path ≡ []

-- what is left of the search: arcs to look at, vertices to open, and the way back
abbrev pub opening_left : Stage → ℕ
opening_left New = 2
opening_left Open = 0
opening_left Ranked = 0

abbrev pub vertex_left : List GraphArc → Progress → ℕ
vertex_left arcs p = (length arcs - p.next) + opening_left p.stage

abbrev pub ranking_left : List GraphArc → Ranking → ℕ
ranking_left arcs r = sum_by (vertex_left arcs) r.progress + length r.path

-- what was ranked stays ranked
abbrev pub IsRankedAt : Ranking → ℕ → Type 0
IsRankedAt r v = (progress_at r.progress v).stage ≡ Ranked

abbrev pub KeepsRanked : Ranking → Ranking → Type 0
KeepsRanked old new = (v : ℕ) → IsRankedAt old v → IsRankedAt new v

-- the search goes on, and less of it is left
pub record GoesOn (arcs : List GraphArc) (count : ℕ) (old new : Ranking) : Type 0 where
  pub search : IsSearch arcs count new
  pub kept : KeepsRanked old new
  pub root : new.root ≡ old.root
  pub less : ranking_left arcs new < ranking_left arcs old

-- the root is ranked, and the search is over
pub record HasEnded (arcs : List GraphArc) (count : ℕ) (old new : Ranking) : Type 0 where
  pub resting : IsResting arcs count new
  pub root : IsRankedAt new old.root
  pub kept : KeepsRanked old new

-- the parts of the steps: a root is begun, the next arc is passed, an arc is taken back, a vertex is ranked
abbrev pub with_stage : Stage → ℕ → Ranking → Ranking
with_stage stage v r =
    record r { progress = slice_set r.progress v (record (progress_at r.progress v) { stage = stage }) }

abbrev pub begun : Ranking → ℕ → Ranking
begun r root = record (with_stage Open root r) { root = root; vertex = root }

abbrev pub advanced : Ranking → ℕ → Ranking
advanced r rank =
    let p = progress_at r.progress r.vertex in
    record r { progress = slice_set r.progress r.vertex (record p { next = p.next + 1; rank = rank }) }

abbrev pub opened : Ranking → ℕ → ℕ → Ranking
opened r arc tail = record (with_stage Open tail r) { path = r.path ++ arc ∷ []; vertex = tail }

abbrev pub ranked : Ranking → Ranking
ranked r = with_stage Ranked r.vertex r

-- the vertex is ranked, and the search goes on at the head of the last arc
pub record ClosesOver (arcs : List GraphArc) (old new : Ranking) : Type 0 where
  pub front : List ℕ
  pub last : ℕ
  pub path : old.path ≡ front ++ last ∷ []
  pub closed : new ≡ record (ranked old) { path = front; vertex = (arc_at arcs last).head }

-- the arc is the next one into the vertex
pub record IsNext (arcs : List GraphArc) (r : Ranking) (a : ℕ) : Type 0 where
  pub within : (progress_at r.progress r.vertex).next < length (arcs_into arcs r.vertex)
  pub arc : a ≡ slice_index (arcs_into arcs r.vertex) (progress_at r.progress r.vertex).next
  pub there : a < length arcs
  pub enters : (arc_at arcs a).head ≡ r.vertex
  pub few : (progress_at r.progress r.vertex).next < 2 ^ 32

-- each vertex is ranked
pub record AreRanks (arcs : List GraphArc) (count : ℕ) (ranks : List ℕ) : Type 0 where
  pub size : length ranks ≡ count
  pub each : (v : ℕ) → v < count → IsRank arcs v (slice_index ranks v)

-- a fault names a cycle of free arcs; running out of memory says nothing
abbrev pub IsCycleFault : List GraphArc → GraphFault → Type 0
IsCycleFault arcs (FreeCycle cycle) = IsFreeCycle arcs cycle
IsCycleFault arcs Memory = Unit {0}
