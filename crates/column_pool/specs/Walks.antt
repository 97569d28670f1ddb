-- The walks of a pool, and what is kept of each.
use Rattle.std.specs.Prelude.{◌≡◌, ℕ, ◌+◌, ◌<◌, ◌≤◌, pos, List, [], length, All, slice_index_or}
use Rattle.column_pool.specs.declared.kept.KeptWalk.{KeptWalk}
use Rattle.column_pool.specs.declared.limits.TheConstants.{MAX_WALK_ARCS}
use Rattle.path_graph.specs.Visits.{visits_along}
use Rattle.route_model.specs.Parts.{ModelParts, graph_in}
use Rattle.multipliers.specs.Quantities.{cost_along}
use Rattle.column_pool.specs.Columns.{first_entries}

-- a pool: how many variables, rows, packing sets and graphs its model has, and its walks as they came
pub record PoolParts : Type 0 where
  pub vars : ℕ
  pub rows : ℕ
  pub sets : ℕ
  pub graphs : ℕ
  pub walks : List KeptWalk

-- a walk by number; nothing is said of a number past the end
abbrev pub walk_at : List KeptWalk → ℕ → KeptWalk
walk_at walks i = slice_index_or walks i (record { graph = 0; arcs = []; visits = []; cost = pos 0; entries = [] })

-- the walk of this graph by these arcs has this number
pub record IsNumbered (walks : List KeptWalk) (number g : ℕ) (path : List ℕ) : Type 0 where
  pub there : number < length walks
  pub graph : (walk_at walks number).graph ≡ g
  pub arcs : (walk_at walks number).arcs ≡ path

-- no walk has two numbers
abbrev pub AreDistinct : List KeptWalk → Type 0
AreDistinct walks = (i j g : ℕ) (path : List ℕ) → IsNumbered walks i g path → IsNumbered walks j g path → i ≡ j

-- what is kept of a walk is what the model makes of it
pub record IsKept (m : ModelParts) (w : KeptWalk) : Type 0 where
  pub graph_there : w.graph < length m.graphs
  pub few_arcs : length w.arcs ≤ MAX_WALK_ARCS
  pub visits : w.visits ≡ visits_along (graph_in m.graphs w.graph) w.arcs
  pub cost : w.cost ≡ cost_along m w.graph w.arcs
  pub entries : w.entries ≡ first_entries m w.graph w.arcs

-- a pool of the model
pub record IsPoolOf (m : ModelParts) (pool : PoolParts) : Type 0 where
  pub vars : pool.vars ≡ length m.vars
  pub rows : pool.rows ≡ length m.rows
  pub sets : pool.sets ≡ m.sets
  pub graphs : pool.graphs ≡ length m.graphs
  pub walks : All (IsKept m) pool.walks

-- how many quantities there are beside the cuts
abbrev pub place_count : PoolParts → ℕ
place_count pool = pool.vars + pool.rows + pool.sets + pool.graphs
