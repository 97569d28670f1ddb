-- The index of a pool: for each graph a map from the arcs of its walks to their numbers.
use Rattle.std.specs.Prelude.{◌≡◌, ◌↔◌, ℕ, ◌<◌, ◌≤◌, Bool, List, [], length, All, Option, Some, slice_index_or}
use Rattle.std.specs.declared.alloc.Global.{Global}
use Rattle.std.specs.declared.vec.Vec.{Vec}
use Rattle.std.specs.BTreeMap.{BTreeMap}
use Rattle.std.specs.Cmp.Lexicographic.{slice_cmp}
use Rattle.std.specs.Map.{lookup}
use Rattle.std.specs.Ordering.{is_eq, nat_cmp}
use Rattle.column_pool.specs.declared.kept.KeptWalk.{KeptWalk}
use Rattle.column_pool.specs.declared.limits.TheConstants.{MAX_WALK_ARCS, MAX_WALKS}
use Rattle.column_pool.specs.Walks.{IsNumbered}

-- the entries of such a map: arcs and a number
abbrev pub Numbers : Type 0
Numbers = List (Vec ℕ Global × ℕ)

abbrev pub entries_of : BTreeMap (Vec ℕ Global) ℕ → Numbers
entries_of numbers = numbers.entries

-- arcs are those of a path
abbrev pub is_path : List ℕ → Vec ℕ Global → Bool
is_path path arcs = is_eq (slice_cmp nat_cmp path arcs.items)

-- the number under which the maps have the walk of this graph by these arcs
abbrev pub number_in : List Numbers → ℕ → List ℕ → Option ℕ
number_in maps g path = lookup (is_path path) (slice_index_or maps g [])

-- they have exactly the walks, each by its number
abbrev pub IsIndex : List Numbers → List KeptWalk → Type 0
IsIndex maps walks = (number g : ℕ) (path : List ℕ) → (number_in maps g path ≡ Some number) ↔ IsNumbered walks number g path

-- what is always so of a pool
pub record IsSound (maps : List Numbers) (walks : List KeptWalk) : Type 0 where
  pub index : IsIndex maps walks
  pub graphs : All (λ w. w.graph < length maps) walks
  pub few_walks : length walks ≤ MAX_WALKS
  pub few_visits : All (λ w. length w.visits ≤ MAX_WALK_ARCS) walks
