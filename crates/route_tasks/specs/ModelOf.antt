-- The model of a task.
use Rattle.std.specs.Prelude.{ℕ, ◌+◌, ◌-◌, ℤ, pos, ◌+ℤ◌, ◌*ℤ◌, List, [], ◌∷◌, map, filter, min, Bool, true, false, ◌&&◌, not, ◌==◌, nat_lt, int_lt, if◌then◌else◌, Option, None, Some}
use Rattle.std.specs.List.{range_with_len, flat_map, list_all}
use Rattle.path_graph.specs.declared.parts.Window.{Window}
use Rattle.path_graph.specs.declared.parts.Vertex.{Vertex}
use Rattle.path_graph.specs.declared.parts.GraphArc.{GraphArc}
use Rattle.path_graph.specs.declared.parts.Ends.{Ends}
use Rattle.path_graph.specs.Walk.{GraphParts}
use Rattle.route_model.specs.declared.parts.Var.{Var}
use Rattle.route_model.specs.declared.parts.RowTerm.{RowTerm}
use Rattle.route_model.specs.declared.parts.Row.{Row}
use Rattle.route_model.specs.Parts.{ModelParts}
use Rattle.route_tasks.specs.declared.limits.TheConstants.{TENTHS}
use Rattle.route_tasks.specs.declared.task.Style.{Style}
use Rattle.route_tasks.specs.declared.task.Style.TheVariants.{Euclid, Tenths}
use Rattle.route_tasks.specs.declared.task.RouteTask.{RouteTask}
use Rattle.route_tasks.specs.Places.{customers, place_at, distance_at, over_pairs, variable, or_depot, other}

-- time is kept, and every customer has a demand, so that load is main
abbrev pub is_timed : Style → Bool
is_timed Euclid = false
is_timed Tenths = true

abbrev pub is_load_main : RouteTask → Bool
is_load_main task = list_all (λ s. int_lt (pos 0) s.demand) task.stops

-- what is said of time, stops and load in the six positions: the main ones first, the secondary one at 2
abbrev pub laid : {X : Type 0} → Bool → Bool → X → X → X → X → List X
laid true true time stops load none = time ∷ load ∷ none ∷ none ∷ none ∷ none ∷ []
laid true false time stops load none = time ∷ stops ∷ load ∷ none ∷ none ∷ none ∷ []
laid false true time stops load none = load ∷ none ∷ none ∷ none ∷ none ∷ none ∷ []
laid false false time stops load none = stops ∷ none ∷ load ∷ none ∷ none ∷ none ∷ []

abbrev pub laid_by : {X : Type 0} → RouteTask → X → X → X → X → List X
laid_by task time stops load none = laid (is_timed task.style) (is_load_main task) time stops load none

-- the windows of a place: times in tenths, 0 to n stops, and 0 to the capacity
abbrev pub window : ℤ → ℤ → Window
window low high = record { low = low; high = high }

abbrev pub windows_of : RouteTask → ℕ → List Window
windows_of task v =
    laid_by task
    (window (TENTHS *ℤ (place_at task v).ready) (TENTHS *ℤ (place_at task v).due))
    (window (pos 0) (pos (customers task)))
    (window (pos 0) task.capacity)
    (window (pos 0) (pos 0))

-- customer i is in set i - 1
abbrev pub set_of : ℕ → ℕ → Option ℕ
set_of n v = if nat_lt 0 v && not (nat_lt n v) then Some (v - 1) else None

abbrev pub vertex_of : RouteTask → ℕ → Vertex
vertex_of task v = record { set = set_of (customers task) v; windows = windows_of task v }

-- an arc consumes the service at its tail and the distance, a stop at each customer, and the demand at its head, of which
-- the depot has none
abbrev pub time_need : RouteTask → ℕ → ℕ → ℤ
time_need task tail head = (TENTHS *ℤ (place_at task tail).service) +ℤ pos (distance_at task tail head)

abbrev pub stop_need : ℕ → ℕ → ℤ
stop_need n head = if nat_lt n head then pos 0 else pos 1

abbrev pub needs_of : RouteTask → ℕ → ℕ → List ℤ
needs_of task tail head =
    laid_by task (time_need task tail head) (stop_need (customers task) head) (place_at task head).demand (pos 0)

abbrev pub arc_of : RouteTask → ℕ → ℕ → GraphArc
arc_of task tail head = record { tail = tail; head = head; needs = needs_of task tail head }

-- from each place to each customer and the sink, but not to itself, nor from the source to the sink
abbrev pub is_head : ℕ → ℕ → ℕ → Bool
is_head n tail head = not (head == tail) && not ((tail == 0) && (head == n + 1))

abbrev pub heads_of : ℕ → ℕ → List ℕ
heads_of n tail = filter (is_head n tail) (range_with_len 1 (n + 1))

abbrev pub arcs_at : RouteTask → ℕ → List GraphArc
arcs_at task tail = map (arc_of task tail) (heads_of (customers task) tail)

abbrev pub arcs_of : RouteTask → List GraphArc
arcs_of task = flat_map (arcs_at task) (range_with_len 0 (customers task + 1))

abbrev pub ends_of : RouteTask → Ends
ends_of task = record {
  source = 0;
  sink = customers task + 1;
  low = 0;
  high = min task.vehicles (customers task);
  mains = if is_timed task.style then 2 else 1;
  seconds = if is_load_main task then 0 else 1;
}

abbrev pub vertices_of : RouteTask → List Vertex
vertices_of task = map (vertex_of task) (range_with_len 0 (customers task + 2))

abbrev pub graph_of : RouteTask → GraphParts
graph_of task = record { ends = ends_of task; vertices = vertices_of task; arcs = arcs_of task }

-- each arc maps the variable of its two places
abbrev pub mapped_of : ℕ → GraphArc → List ℕ
mapped_of n arc = variable n arc.tail (or_depot n arc.head) ∷ []

-- a variable for each pair of places: it costs their distance, and a customer alone on a route uses that with the depot
-- twice
abbrev pub var_of : RouteTask → ℕ → ℕ → Var
var_of task low high = record {
  low = pos 0;
  high = if low == 0 then pos 2 else pos 1;
  cost = pos (distance_at task low high);
}

abbrev pub vars_from : RouteTask → ℕ → List Var
vars_from task low = map (var_of task low) (range_with_len (low + 1) (customers task - low))

abbrev pub vars_of : RouteTask → List Var
vars_of task = over_pairs (customers task) (var_of task)

-- the pairs with a customer are used twice
abbrev pub term_of : ℕ → ℕ → ℕ → RowTerm
term_of n i j = record { var = variable n i j; coef = pos 1 }

abbrev pub terms_of : ℕ → ℕ → List RowTerm
terms_of n i = map (λ k. term_of n i (other i k)) (range_with_len 0 n)

abbrev pub row_of : ℕ → ℕ → Row
row_of n i = record { low = Some (pos 2); high = Some (pos 2); terms = terms_of n i }

abbrev pub rows_of : ℕ → List Row
rows_of n = map (row_of n) (range_with_len 1 n)

abbrev pub model_of : RouteTask → ModelParts
model_of task = record {
  vars = vars_of task;
  rows = rows_of (customers task);
  sets = customers task;
  graphs = graph_of task ∷ [];
  maps = map (mapped_of (customers task)) (arcs_of task) ∷ [];
}
