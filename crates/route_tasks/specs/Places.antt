-- The places of a task, and the variables of the pairs of places.
use Rattle.std.specs.Prelude.{ℕ, ◌+◌, ◌-◌, List, ◌∷◌, length, nat_lt, if◌then◌else◌, slice_index_or, sum_by, map}
use Rattle.std.specs.List.{range_with_len, flat_map}
use Rattle.route_tasks.specs.declared.task.Stop.{Stop}
use Rattle.route_tasks.specs.declared.task.RouteTask.{RouteTask}
use Rattle.route_tasks.specs.Distance.{distance_of}

-- how many customers there are
abbrev pub customers : RouteTask → ℕ
customers task = length task.stops

-- the places: the depot is 0, the customers are 1 to n, and past them there is the depot again
abbrev pub place_at : RouteTask → ℕ → Stop
place_at task v = slice_index_or (task.depot ∷ task.stops) v task.depot

abbrev pub distance_at : RouteTask → ℕ → ℕ → ℕ
distance_at task u v = distance_of task.style (place_at task u) (place_at task v)

-- a list over the pairs of the places 0 to n, by lower, then by higher place
abbrev pub over_pairs : {X : Type 0} → ℕ → (ℕ → ℕ → X) → List X
over_pairs n f = flat_map (λ low. map (f low) (range_with_len (low + 1) (n - low))) (range_with_len 0 n)

-- how many pairs have a lower place below this one
abbrev pub pairs_before : ℕ → ℕ → ℕ
pairs_before n low = sum_by (λ k. n - k) (range_with_len 0 low)

-- the number of a pair among them
abbrev pub pair_number : ℕ → ℕ → ℕ → ℕ
pair_number n low high = pairs_before n low + (high - low - 1)

-- the variable of two places in either order
abbrev pub variable : ℕ → ℕ → ℕ → ℕ
variable n u v = if nat_lt u v then pair_number n u v else pair_number n v u

-- the place of the depot, at the sink too
abbrev pub or_depot : ℕ → ℕ → ℕ
or_depot n v = if nat_lt n v then 0 else v

-- the k-th place other than one, from 0 on
abbrev pub other : ℕ → ℕ → ℕ
other i k = if nat_lt k i then k else k + 1
