-- The limits of a task.
use Rattle.std.specs.Prelude.{◌≡◌, ◌≢◌, ℕ, ◌<◌, ◌≤◌, ℤ, pos, ◌≤ℤ◌, List, ◌∷◌, length, map, All, slice_index}
use Rattle.route_tasks.specs.declared.limits.TheConstants.{MAX_CUSTOMERS, MAX_VEHICLES, MAX_LOAD, MAX_TIME, MAX_SERVICE, MAX_NUMBER}
use Rattle.route_tasks.specs.declared.task.Stop.{Stop}
use Rattle.route_tasks.specs.declared.task.RouteTask.{RouteTask}
use Rattle.route_tasks.specs.Distance.{IsPlaced}

-- a number from one to another
abbrev pub IsFromTo : ℤ → ℤ → ℤ → Type 0
IsFromTo low high z = (low ≤ℤ z) × (z ≤ℤ high)

-- a stop within the limits
pub record StopFits (s : Stop) : Type 0 where
  pub numbered : s.number ≤ MAX_NUMBER
  pub placed : IsPlaced s
  pub demanded : IsFromTo (pos 0) MAX_LOAD s.demand
  pub opens : pos 0 ≤ℤ s.ready
  pub order : s.ready ≤ℤ s.due
  pub closes : s.due ≤ℤ MAX_TIME
  pub served : IsFromTo (pos 0) MAX_SERVICE s.service

-- the numbers of the depot and of the customers
abbrev pub node_numbers : RouteTask → List ℕ
node_numbers task = task.depot.number ∷ map (λ s. s.number) task.stops

-- no number stands twice
abbrev pub AllDiffer : List ℕ → Type 0
AllDiffer numbers = (i j : ℕ) → i < j → j < length numbers → slice_index numbers i ≢ slice_index numbers j

-- the limits of a task
pub record TaskFits (task : RouteTask) : Type 0 where
  pub some_customers : 1 ≤ length task.stops
  pub few_customers : length task.stops ≤ MAX_CUSTOMERS
  pub some_vehicles : 1 ≤ task.vehicles
  pub few_vehicles : task.vehicles ≤ MAX_VEHICLES
  pub capacity_fits : IsFromTo (pos 1) MAX_LOAD task.capacity
  pub depot_fits : StopFits task.depot
  pub each_fits : All StopFits task.stops
  pub depot_empty : task.depot.demand ≡ pos 0
  pub all_differ : AllDiffer (node_numbers task)
