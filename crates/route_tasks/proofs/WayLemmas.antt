-- The walks of the model of a task are the ways of routes.
use Rattle.std.proofs.Common.{◌≡◌, ℕ, suc, ◌+◌, ◌<◌, ◌≤◌, ℤ, pos, ◌+ℤ◌, ◌*ℤ◌, ◌≤ℤ◌, List, [], ◌∷◌, length, map, Bool, true, false, not, cond, All, refl, sym, ◌∙◌, ap, subst, arith, nat_lt}
use Rattle.std.specs.Int.{int_max}
use Rattle.std.proofs.lemmas.Int.{ints, clamps}
use Rattle.std.proofs.lemmas.Bool.Decides.{nat_tests}
use Rattle.std.proofs.lemmas.List.{get_or_past}
use Rattle.std.proofs.lemmas.List.Elements.{All-cons}
use Rattle.path_graph.specs.declared.parts.Values.{Values}
use Rattle.path_graph.specs.declared.parts.Window.{Window}
use Rattle.path_graph.specs.declared.parts.Vertex.{Vertex}
use Rattle.path_graph.specs.Fit.{int_at, window_at, vertex_at}
use Rattle.path_graph.specs.Walk.{Leads, Passes, IsFeasibleWalk, arc_at, over_of, root_of, moved_at, Takes}
use Rattle.route_tasks.specs.declared.task.Stop.{Stop}
use Rattle.route_tasks.specs.declared.task.Style.{Style}
use Rattle.route_tasks.specs.declared.task.Style.TheVariants.{Euclid, Tenths}
use Rattle.route_tasks.specs.declared.task.RouteTask.{RouteTask}
use Rattle.route_tasks.specs.Fit.{TaskFits}
use Rattle.route_tasks.specs.Distance.{distance_of}
use Rattle.route_tasks.specs.Places.{customers, place_at}
use Rattle.route_tasks.specs.ModelOf.{is_timed, is_load_main, laid, window, windows_of, needs_of, time_need, stop_need, arcs_of, graph_of, vertices_of}
use Rattle.route_tasks.specs.Routes.{IsCustomer, IsRoute, IsOnTime, KeepsTimes, time_after, load_of, visited}
use Rattle.route_tasks.proofs.ListLemmas.{all_none}
use Rattle.route_tasks.proofs.ArcLemmas.{arc_is}
use Rattle.route_tasks.proofs.FitLemmas.{vertex_is}

-- an arc from one place to another
pub record IsStep (task : RouteTask) (u a v : ℕ) : Type 0 where
  pub there : a < length (arcs_of task)
  pub tail : (arc_at (arcs_of task) a).tail ≡ u
  pub head : (arc_at (arcs_of task) a).head ≡ v

-- arcs from a place through the customers of a route to the sink
abbrev pub IsWay : RouteTask → ℕ → List ℕ → List ℕ → Type 0
IsWay task u [] route = ⊥
IsWay task u (a ∷ rest) [] = IsStep task u a (customers task + 1) × (rest ≡ [])
IsWay task u (a ∷ rest) (v ∷ more) = IsStep task u a v × (v ≤ customers task) × IsWay task v rest more

-- a walk from a place to the sink is the way through the customers that it visits
pub way_is : (task : RouteTask) (u : ℕ) (arcs : List ℕ) → u ≤ customers task → Leads (graph_of task) u arcs (customers task + 1) → IsWay task u arcs (visited task arcs)
way_is task u [] l leads = absurd (omega (arith, l, leads))
way_is task u (a ∷ []) l leads =
    let past : nat_lt (customers task) (arc_at (arcs_of task) a).head ≡ true = ap (nat_lt (customers task)) leads.2 ∙ more (customers task) in
    subst (λ (t : Bool). IsWay task u (a ∷ []) (cond (not t) ((arc_at (arcs_of task) a).head ∷ []) [])) (sym past)
    (record { there = leads.0; tail = leads.1; head = leads.2 }, refl)
  where
    more : (n : ℕ) → nat_lt n (n + 1) ≡ true
    more n = grind (arith, nat_tests)
way_is task u (a ∷ b ∷ rest) l leads =
    let v : ℕ = (arc_at (arcs_of task) a).head in
    let within : v ≤ customers task = omega (arith, (arc_is task b leads.2.0).from, leads.2.1) in
    let inside : nat_lt (customers task) v ≡ false = grind (arith, nat_tests) in
    subst (λ (t : Bool). IsWay task u (a ∷ b ∷ rest) (cond (not t) (v ∷ visited task (b ∷ rest)) (visited task (b ∷ rest)))) (sym inside)
    (record { there = leads.0; tail = leads.1; head = refl }, within, way_is task v (b ∷ rest) within leads.2)

-- customers alone, and at least one from the depot
pub way_customers : (task : RouteTask) (u : ℕ) (arcs route : List ℕ) → IsWay task u arcs route → All (IsCustomer task) route
way_customers task u [] route way = absurd way
way_customers task u (a ∷ rest) [] way = all_none (IsCustomer task)
way_customers task u (a ∷ rest) (v ∷ more) way =
    let some = (arc_is task a way.0.there).some in
    All-cons (IsCustomer task) v more (omega (arith, some, way.0.head), way.1) (way_customers task v rest more way.2)

pub way_some : (task : RouteTask) (arcs route : List ℕ) → IsWay task 0 arcs route → 1 ≤ length route
way_some task [] route way = absurd way
way_some task (a ∷ rest) [] way =
    let both = (arc_is task a way.0.there).not_both way.0.tail in
    absurd (omega (arith, both, way.0.head))
way_some task (a ∷ rest) (v ∷ more) way = omega arith

-- the sink is the depot
pub sink_place : (task : RouteTask) → place_at task (customers task + 1) ≡ task.depot
sink_place task = ap (place_at task) (next (customers task)) ∙ get_or_past task.stops (customers task) task.depot (omega arith)
  where
    next : (n : ℕ) → n + 1 ≡ suc n
    next n = omega arith

-- what is said of an arc by a step
pub step_needs : (task : RouteTask) (u a v : ℕ) → IsStep task u a v → (arc_at (arcs_of task) a).needs ≡ needs_of task u v
step_needs task u a v s = (arc_is task a s.there).needs ∙ (λ i. needs_of task (s.tail i) (s.head i))

pub step_windows : (task : RouteTask) (u a v : ℕ) → IsStep task u a v → v ≤ customers task + 1 → (vertex_at (vertices_of task) (arc_at (arcs_of task) a).head).windows ≡ windows_of task v
step_windows task u a v s l =
    ap (λ w. (vertex_at (vertices_of task) w).windows) s.head ∙ ap (λ (x : Vertex). x.windows) (vertex_is task v (omega (arith, l)))

-- where load stands, and where a vehicle's load is after an arc
abbrev pub load_spot : Bool → Bool → ℕ
load_spot true true = 1
load_spot true false = 2
load_spot false true = 0
load_spot false false = 2

laid_load : (t l : Bool) (time stops load : ℤ) → int_at (laid t l time stops load (pos 0)) (load_spot t l) ≡ load
laid_load true true time stops load = refl
laid_load true false time stops load = refl
laid_load false true time stops load = refl
laid_load false false time stops load = refl

laid_window : (t l : Bool) (time stops load none : Window) → window_at (laid t l time stops load none) (load_spot t l) ≡ load
laid_window true true time stops load none = refl
laid_window true false time stops load none = refl
laid_window false true time stops load none = refl
laid_window false false time stops load none = refl

spot_small : (t l : Bool) → load_spot t l < 6
spot_small true true = omega arith
spot_small true false = omega arith
spot_small false true = omega arith
spot_small false false = omega arith

moved_load : (t l : Bool) (values needs : List ℤ) (windows : List Window) → int_at (map (moved_at values needs windows) (0 ∷ 1 ∷ 2 ∷ 3 ∷ 4 ∷ 5 ∷ [])) (load_spot t l) ≡ moved_at values needs windows (load_spot t l)
moved_load true true values needs windows = refl
moved_load true false values needs windows = refl
moved_load false true values needs windows = refl
moved_load false false values needs windows = refl

abbrev spot_of : RouteTask → ℕ
spot_of task = load_spot (is_timed task.style) (is_load_main task)

-- over a step the load grows by the demand, and stays within the capacity
over_load : (task : RouteTask) (u a v : ℕ) (value : Values) → IsStep task u a v → v ≤ customers task + 1 → int_at (over_of (graph_of task) value a).at (spot_of task) ≡ int_max (pos 0) (int_at value.at (spot_of task) +ℤ (place_at task v).demand)
over_load task u a v value s l =
    moved_load (is_timed task.style) (is_load_main task) value.at (arc_at (arcs_of task) a).needs (vertex_at (vertices_of task) (arc_at (arcs_of task) a).head).windows
    ∙ (λ i. int_max (window_at (step_windows task u a v s l i) (spot_of task)).low (int_at value.at (spot_of task) +ℤ int_at (step_needs task u a v s i) (spot_of task)))
    ∙ (λ i. int_max (laid_window (is_timed task.style) (is_load_main task) (window (pos 10 *ℤ (place_at task v).ready) (pos 10 *ℤ (place_at task v).due)) (window (pos 0) (pos (customers task))) (window (pos 0) task.capacity) (window (pos 0) (pos 0)) i).low
    (int_at value.at (spot_of task) +ℤ laid_load (is_timed task.style) (is_load_main task) (time_need task u v) (stop_need (customers task) v) (place_at task v).demand i))

takes_load : (task : RouteTask) (u a v : ℕ) (value : Values) → IsStep task u a v → v ≤ customers task + 1 → Takes (graph_of task) value a → int_at (over_of (graph_of task) value a).at (spot_of task) ≤ℤ task.capacity
takes_load task u a v value s l takes =
    let high = takes (spot_of task) (spot_small (is_timed task.style) (is_load_main task)) in
    let is = ap (λ (ws : List Window). (window_at ws (spot_of task)).high) (step_windows task u a v s l)
    ∙ ap (λ (w : Window). w.high) (laid_window (is_timed task.style) (is_load_main task) (window (pos 10 *ℤ (place_at task v).ready) (pos 10 *ℤ (place_at task v).due)) (window (pos 0) (pos (customers task))) (window (pos 0) task.capacity) (window (pos 0) (pos 0))) in
    subst (λ (z : ℤ). int_at (over_of (graph_of task) value a).at (spot_of task) ≤ℤ z) is high

pub way_load : (task : RouteTask) (u : ℕ) (arcs route : List ℕ) (value : Values) → TaskFits task → IsWay task u arcs route → Passes (graph_of task) value arcs → (int_at value.at (spot_of task) +ℤ load_of task route) ≤ℤ task.capacity
way_load task u [] route value fits way passes = absurd way
way_load task u (a ∷ rest) [] value fits way passes =
    let over = over_load task u a (customers task + 1) value way.0 (omega arith) in
    let most = takes_load task u a (customers task + 1) value way.0 (omega arith) passes.0 in
    let none = ap (λ (s : Stop). s.demand) (sink_place task) ∙ fits.depot_empty in
    last (int_at value.at (spot_of task)) (place_at task (customers task + 1)).demand (int_at (over_of (graph_of task) value a).at (spot_of task)) task.capacity over most none
  where
    last : (x d y c : ℤ) → y ≡ int_max (pos 0) (x +ℤ d) → y ≤ℤ c → d ≡ pos 0 → (x +ℤ pos 0) ≤ℤ c
    last x d y c e l n = omega (arith, ints, clamps, e, l, n)
way_load task u (a ∷ rest) (v ∷ more) value fits way passes =
    let over = over_load task u a v value way.0 (omega (arith, way.1)) in
    let later = way_load task v rest more (over_of (graph_of task) value a) fits way.2 passes.1 in
    next (int_at value.at (spot_of task)) (place_at task v).demand (int_at (over_of (graph_of task) value a).at (spot_of task)) (load_of task more) task.capacity over later
  where
    next : (x d y r c : ℤ) → y ≡ int_max (pos 0) (x +ℤ d) → (y +ℤ r) ≤ℤ c → (x +ℤ (d +ℤ r)) ≤ℤ c
    next x d y r c e l = omega (arith, ints, clamps, e, l)

-- times along a way, where time is kept
laid_time : (t l : Bool) (time stops load none : ℤ) → t ≡ true → int_at (laid t l time stops load none) 0 ≡ time
laid_time true true time stops load none e = refl
laid_time true false time stops load none e = refl
laid_time false l time stops load none e = absurd (untrue e)
  where
    untrue : false ≡ true → ⊥
    untrue h = cc

laid_times : (t l : Bool) (time stops load none : Window) → t ≡ true → window_at (laid t l time stops load none) 0 ≡ time
laid_times true true time stops load none e = refl
laid_times true false time stops load none e = refl
laid_times false l time stops load none e = absurd (untrue e)
  where
    untrue : false ≡ true → ⊥
    untrue h = cc

time_window : (task : RouteTask) (v : ℕ) → is_timed task.style ≡ true → window_at (windows_of task v) 0 ≡ window (pos 10 *ℤ (place_at task v).ready) (pos 10 *ℤ (place_at task v).due)
time_window task v t =
    laid_times (is_timed task.style) (is_load_main task) (window (pos 10 *ℤ (place_at task v).ready) (pos 10 *ℤ (place_at task v).due)) (window (pos 0) (pos (customers task))) (window (pos 0) task.capacity) (window (pos 0) (pos 0)) t

over_time : (task : RouteTask) (u a v : ℕ) (value : Values) → is_timed task.style ≡ true → IsStep task u a v → v ≤ customers task + 1 → int_at (over_of (graph_of task) value a).at 0 ≡ time_after task u (int_at value.at 0) v
over_time task u a v value t s l =
    (λ i. int_max (window_at (step_windows task u a v s l i) 0).low (int_at value.at 0 +ℤ int_at (step_needs task u a v s i) 0))
    ∙ (λ i. int_max (time_window task v t i).low
    (int_at value.at 0 +ℤ laid_time (is_timed task.style) (is_load_main task) (time_need task u v) (stop_need (customers task) v) (place_at task v).demand (pos 0) t i))

takes_time : (task : RouteTask) (u a v : ℕ) (value : Values) → is_timed task.style ≡ true → IsStep task u a v → v ≤ customers task + 1 → Takes (graph_of task) value a → time_after task u (int_at value.at 0) v ≤ℤ (pos 10 *ℤ (place_at task v).due)
takes_time task u a v value t s l takes =
    let high = takes 0 (omega arith) in
    let is = ap (λ (ws : List Window). (window_at ws 0).high) (step_windows task u a v s l) ∙ ap (λ (w : Window). w.high) (time_window task v t) in
    subst (λ (z : ℤ). z ≤ℤ (pos 10 *ℤ (place_at task v).due)) (over_time task u a v value t s l)
    (subst (λ (z : ℤ). int_at (over_of (graph_of task) value a).at 0 ≤ℤ z) is high)

abbrev pub is_reached : RouteTask → ℕ → ℤ → Stop → Type 0
is_reached task u time s = int_max (pos 10 *ℤ s.ready) (time +ℤ ((pos 10 *ℤ (place_at task u).service) +ℤ pos (distance_of task.style (place_at task u) s))) ≤ℤ (pos 10 *ℤ s.due)

pub way_times : (task : RouteTask) (u : ℕ) (arcs route : List ℕ) (value : Values) → is_timed task.style ≡ true → IsWay task u arcs route → Passes (graph_of task) value arcs → KeepsTimes task u (int_at value.at 0) route
way_times task u [] route value t way passes = absurd way
way_times task u (a ∷ rest) [] value t way passes =
    subst (is_reached task u (int_at value.at 0)) (sink_place task) (takes_time task u a (customers task + 1) value t way.0 (omega arith) passes.0)
way_times task u (a ∷ rest) (v ∷ more) value t way passes = (
  takes_time task u a v value t way.0 (omega (arith, way.1)) passes.0,
  subst (λ (z : ℤ). KeepsTimes task v z more) (over_time task u a v value t way.0 (omega (arith, way.1))) (way_times task v rest more (over_of (graph_of task) value a) t way.2 passes.1),
)

-- a feasible walk is the way of a route
spot_mapped : (t l : Bool) (f : ℕ → ℤ) → int_at (map f (0 ∷ 1 ∷ 2 ∷ 3 ∷ 4 ∷ 5 ∷ [])) (load_spot t l) ≡ f (load_spot t l)
spot_mapped true true f = refl
spot_mapped true false f = refl
spot_mapped false true f = refl
spot_mapped false false f = refl

pub source_windows : (task : RouteTask) → (vertex_at (vertices_of task) 0).windows ≡ windows_of task 0
source_windows task = ap (λ (x : Vertex). x.windows) (vertex_is task 0 (omega arith))

root_load : (task : RouteTask) → int_at (root_of (graph_of task)).at (spot_of task) ≡ pos 0
root_load task =
    spot_mapped (is_timed task.style) (is_load_main task) (λ k. (window_at (vertex_at (vertices_of task) 0).windows k).low)
    ∙ (ap (λ (ws : List Window). (window_at ws (spot_of task)).low) (source_windows task)
    ∙ ap (λ (w : Window). w.low) (laid_window (is_timed task.style) (is_load_main task) (window (pos 10 *ℤ (place_at task 0).ready) (pos 10 *ℤ (place_at task 0).due)) (window (pos 0) (pos (customers task))) (window (pos 0) task.capacity) (window (pos 0) (pos 0))))

root_time : (task : RouteTask) → is_timed task.style ≡ true → int_at (root_of (graph_of task)).at 0 ≡ pos 10 *ℤ (place_at task 0).ready
root_time task t = ap (λ (ws : List Window). (window_at ws 0).low) (source_windows task) ∙ ap (λ (w : Window). w.low) (time_window task 0 t)

pub walk_route : (task : RouteTask) (arcs : List ℕ) → TaskFits task → IsFeasibleWalk (graph_of task) arcs → IsRoute task (visited task arcs)
walk_route task arcs fits walk = record {
  some = way_some task arcs (visited task arcs) way;
  customers_only = way_customers task 0 arcs (visited task arcs) way;
  load_fits = let load = way_load task 0 arcs (visited task arcs) (root_of (graph_of task)) fits way walk.passes in omega (arith, ints, load, root_load task);
  on_time = times task.style refl;
}
  where
    way : IsWay task 0 arcs (visited task arcs)
    way = way_is task 0 arcs (omega arith) walk.walk

    times : (style : Style) → task.style ≡ style → IsOnTime style task (visited task arcs)
    times Euclid e = tt
    times Tenths e =
        let t : is_timed task.style ≡ true = ap is_timed e in
        subst (λ (z : ℤ). KeepsTimes task 0 z (visited task arcs)) (root_time task t) (way_times task 0 arcs (visited task arcs) (root_of (graph_of task)) t way walk.passes)
