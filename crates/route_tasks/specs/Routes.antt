-- Routes, route plans and their costs. A customer is named by its place, 1 to n in the order of the text.
use Rattle.std.specs.Prelude.{◌≡◌, ℕ, ◌≤◌, ℤ, pos, ◌+ℤ◌, ◌*ℤ◌, ◌≤ℤ◌, List, [], ◌∷◌, length, map, filter, All, sum_by, count_by, ◌==◌, not, nat_lt}
use Rattle.std.specs.Int.{int_max}
use Rattle.path_graph.specs.Parts.{arc_at}
use Rattle.path_graph.specs.Sums.{sum_over}
use Rattle.route_model.specs.declared.plan.Taken.{Taken}
use Rattle.route_model.specs.declared.plan.Plan.{Plan}
use Rattle.route_model.specs.Quantities.{cost_of}
use Rattle.route_model.specs.Solution.{IsSolution}
use Rattle.route_tasks.specs.declared.limits.TheConstants.{TENTHS}
use Rattle.route_tasks.specs.declared.task.Style.{Style}
use Rattle.route_tasks.specs.declared.task.Style.TheVariants.{Euclid, Tenths}
use Rattle.route_tasks.specs.declared.task.RouteTask.{RouteTask}
use Rattle.route_tasks.specs.Fit.{TaskFits}
use Rattle.route_tasks.specs.Places.{customers, place_at, distance_at}
use Rattle.route_tasks.specs.ModelOf.{arcs_of, model_of}

-- the place of a customer
abbrev pub IsCustomer : RouteTask → ℕ → Type 0
IsCustomer task v = (1 ≤ v) × (v ≤ customers task)

-- the time at v after a time at u: the service at u and the way, or else v opens later
abbrev pub time_after : RouteTask → ℕ → ℤ → ℕ → ℤ
time_after task u time v =
    int_max (TENTHS *ℤ (place_at task v).ready)
    (time +ℤ ((TENTHS *ℤ (place_at task u).service) +ℤ pos (distance_at task u v)))

-- from a time at u on, each stop of a route and the depot at its end is reached before it closes
abbrev pub KeepsTimes : RouteTask → ℕ → ℤ → List ℕ → Type 0
KeepsTimes task u time [] = time_after task u time 0 ≤ℤ (TENTHS *ℤ (place_at task 0).due)
KeepsTimes task u time (v ∷ rest) =
    (time_after task u time v ≤ℤ (TENTHS *ℤ (place_at task v).due)) × KeepsTimes task v (time_after task u time v) rest

-- a route begins as the depot opens; in the Euclidean style there is no time
abbrev pub IsOnTime : Style → RouteTask → List ℕ → Type 0
IsOnTime Euclid task route = Unit {0}
IsOnTime Tenths task route = KeepsTimes task 0 (TENTHS *ℤ (place_at task 0).ready) route

-- what the customers of a route demand
abbrev pub load_of : RouteTask → List ℕ → ℤ
load_of task route = sum_over (λ v. (place_at task v).demand) route

-- a route: customers, at least one, whose demands fit into a vehicle, each reached in time
pub record IsRoute (task : RouteTask) (route : List ℕ) : Type 0 where
  pub some : 1 ≤ length route
  pub customers_only : All (IsCustomer task) route
  pub load_fits : load_of task route ≤ℤ task.capacity
  pub on_time : IsOnTime task.style task route

-- at most as many routes as vehicles, and each customer in exactly one
pub record IsRoutePlan (task : RouteTask) (routes : List (List ℕ)) : Type 0 where
  pub few : length routes ≤ task.vehicles
  pub each : All (IsRoute task) routes
  pub once : (v : ℕ) → IsCustomer task v → sum_by (count_by (λ u. u == v)) routes ≡ 1

-- the way from u through the places of a route and back to the depot
abbrev pub way_of : RouteTask → ℕ → List ℕ → ℤ
way_of task u [] = pos (distance_at task u 0)
way_of task u (v ∷ rest) = pos (distance_at task u v) +ℤ way_of task v rest

abbrev pub route_cost : RouteTask → List (List ℕ) → ℤ
route_cost task routes = sum_over (way_of task 0) routes

-- the customers that a walk visits, and those of each path of a plan. In a solution each customer is visited once, so
-- each path is taken once, and stands once among the routes.
abbrev pub visited : RouteTask → List ℕ → List ℕ
visited task arcs = filter (λ v. not (nat_lt (customers task) v)) (map (λ a. (arc_at (arcs_of task) a).head) arcs)

abbrev pub routes_along : RouteTask → List Taken → List (List ℕ)
routes_along task paths = map (λ t. visited task t.arcs) paths

abbrev pub routes_in : RouteTask → Plan → List (List ℕ)
routes_in task plan = routes_along task plan.paths

-- routes by the numbers of their customers
abbrev pub numbers_along : RouteTask → List ℕ → List ℕ
numbers_along task route = map (λ v. (place_at task v).number) route

abbrev pub numbers_of : RouteTask → List (List ℕ) → List (List ℕ)
numbers_of task routes = map (numbers_along task) routes

-- these are the numbers of a route plan of this cost
pub record IsNumberedPlan (task : RouteTask) (cost : ℤ) (numbers : List (List ℕ)) : Type 0 where
  pub routes : List (List ℕ)
  pub same : numbers ≡ numbers_of task routes
  pub plan : IsRoutePlan task routes
  pub equal_cost : route_cost task routes ≡ cost

-- each route plan has a solution of the model with equal cost
pub record HasSolution (task : RouteTask) (routes : List (List ℕ)) : Type 0 where
  pub plan : Plan
  pub solution : IsSolution (model_of task) plan
  pub equal_cost : cost_of (model_of task) plan ≡ route_cost task routes

-- each route plan of a task has a solution of the task's model with equal cost
abbrev pub RoutesHaveSolutionsLaw : Type 0
RoutesHaveSolutionsLaw =
    (task : RouteTask) → TaskFits task
    → (routes : List (List ℕ)) → IsRoutePlan task routes → HasSolution task routes
