-- The walks that are made of routes.
use Rattle.std.proofs.Common.{◌≡◌, ◌≢◌, ℕ, zero, suc, ◌+◌, ◌-◌, ◌<◌, ◌≤◌, ℤ, pos, ◌+ℤ◌, ◌*ℤ◌, ◌≤ℤ◌, List, [], ◌∷◌, length, map, get_or, Bool, true, false, not, ◌&&◌, cond, All, refl, sym, ◌∙◌, ap, subst, arith, nat_lt, inl, inr, ◌==◌}
use Rattle.std.specs.Prelude.{if◌then◌else◌, count_by}
use Rattle.std.specs.Int.{int_max}
use Rattle.std.specs.List.{range_with_len, flat_map, Contains, position_or_len}
use Rattle.std.proofs.lemmas.Int.{ints, clamps}
use Rattle.std.proofs.lemmas.Bool.{cases_lt}
use Rattle.std.proofs.lemmas.Bool.Decides.{nat_tests}
use Rattle.std.proofs.lemmas.List.{get_or-map, length-map}
use Rattle.std.proofs.lemmas.List.Elements.{Contains-append_left, Contains-append_right}
use Rattle.std.proofs.lemmas.List.Sums.{sum_by-cons, fails_before_first, passes_at_first}
use Rattle.std.proofs.lemmas.List.FromFn.{length-range_with_len, get_or-range_with_len}
use Rattle.path_graph.specs.declared.parts.GraphArc.{GraphArc}
use Rattle.path_graph.specs.declared.parts.Values.{Values}
use Rattle.path_graph.specs.declared.parts.Window.{Window}
use Rattle.path_graph.specs.Fit.{vertex_at}
use Rattle.path_graph.specs.Walk.{Leads, Passes, arc_at, over_of, moved, AreBelow, Takes}
use Rattle.path_graph.proofs.FreeLemmas.{filter_contains}
use Rattle.path_graph.proofs.WalkLemmas.{at_each}
use Rattle.route_tasks.specs.declared.task.Stop.{Stop}
use Rattle.route_tasks.specs.declared.task.RouteTask.{RouteTask}
use Rattle.route_tasks.specs.Fit.{TaskFits}
use Rattle.route_tasks.specs.Places.{customers, place_at}
use Rattle.route_tasks.specs.ModelOf.{is_timed, is_load_main, laid, window, time_need, stop_need, arc_of, is_head, heads_of, arcs_at, arcs_of, graph_of, vertices_of}
use Rattle.route_tasks.specs.Routes.{IsCustomer, KeepsTimes, time_after, load_of, visited}
use Rattle.route_tasks.proofs.FitLemmas.{place_fits}
use Rattle.route_tasks.proofs.WayLemmas.{IsStep, IsWay, step_needs, step_windows, sink_place, is_reached}

-- an arc of each tail and head stands among the arcs
mapped_contains : {X Y : Type 0} (f : X → Y) (xs : List X) (x : X) → Contains xs x → Contains (map f xs) (f x)
mapped_contains f xs x h = (h.0, omega (arith, h.1, length-map xs f), get_or-map f xs h.0 x (f x) h.1 ∙ ap f h.2)

joined_contains : {X Y : Type 0} (f : Y → List X) (ys : List Y) (x : X) (k : ℕ) (y : Y) → k < length ys → get_or ys k y ≡ y → Contains (f y) x → Contains (flat_map f ys) x
joined_contains f [] x k y l at h = absurd (omega (arith, l))
joined_contains f (z ∷ ys) x zero y l at h = Contains-append_left (f z) (flat_map f ys) x (subst (λ w. Contains (f w) x) (sym at) h)
joined_contains f (z ∷ ys) x (suc k) y l at h = Contains-append_right (f z) (flat_map f ys) x (joined_contains f ys x k y (omega (arith, l)) at h)

in_range : (a n s : ℕ) → a ≤ s → s < a + n → Contains (range_with_len a n) s
in_range a n s low high = (s - a, omega (arith, length-range_with_len a n, low, high), get_or-range_with_len a n (s - a) s (omega (arith, low, high)) ∙ omega (arith, low))

arc_there : (task : RouteTask) (u v : ℕ) → u ≤ customers task → 1 ≤ v → v ≤ customers task + 1 → is_head (customers task) u v ≡ true → Contains (arcs_of task) (arc_of task u v)
arc_there task u v p q r passes =
    let tail = in_range 0 (customers task + 1) u (omega arith) (omega (arith, p)) in
    let head = in_range 1 (customers task + 1) v q (omega (arith, r)) in
    let kept = filter_contains (is_head (customers task) u) (range_with_len 1 (customers task + 1)) v head passes in
    joined_contains (arcs_at task) (range_with_len 0 (customers task + 1)) (arc_of task u v) tail.0 u tail.1 tail.2 (mapped_contains (arc_of task u) (heads_of (customers task) u) v kept)

-- the number of the arc of two places
abbrev joins : ℕ → ℕ → GraphArc → Bool
joins u v arc = (arc.tail == u) && (arc.head == v)

arc_number : RouteTask → ℕ → ℕ → ℕ
arc_number task u v = position_or_len (joins u v) (arcs_of task)

both_are : (a b u v : ℕ) → ((a == u) && (b == v)) ≡ true → (a ≡ u) × (b ≡ v)
both_are a b u v e = (first a b u v e, second a b u v e)
  where
    first : (x y p q : ℕ) → ((x == p) && (y == q)) ≡ true → x ≡ p
    first x y p q h = grind (arith, nat_tests)

    second : (x y p q : ℕ) → ((x == p) && (y == q)) ≡ true → y ≡ q
    second x y p q h = grind (arith, nat_tests)

joins_own : (u v : ℕ) → ((u == u) && (v == v)) ≡ true
joins_own u v = grind (arith, nat_tests)

step_made : (task : RouteTask) (u v : ℕ) → u ≤ customers task → 1 ≤ v → v ≤ customers task + 1 → is_head (customers task) u v ≡ true → IsStep task u (arc_number task u v) v
unfolding arc_number
step_made task u v p q r passes = record { there = there; tail = are.0; head = are.1 }
  where
    has : Contains (arcs_of task) (arc_of task u v)
    has = arc_there task u v p q r passes

    number : ℕ
    number = position_or_len (joins u v) (arcs_of task)

    there : number < length (arcs_of task)
    there = elim (cases_lt number (length (arcs_of task))) [
      | inl less ↦ less
      | inr past ↦
          let fails = fails_before_first (joins u v) (arcs_of task) has.0 (arc_of task u v) (omega (arith, past, has.1)) in
          let passes_there : joins u v (get_or (arcs_of task) has.0 (arc_of task u v)) ≡ true = ap (joins u v) has.2 ∙ joins_own u v in
          absurd (apart (sym passes_there ∙ fails))
    ]
      where
        apart : true ≡ false → ⊥
        apart e = cc

    are : ((arc_at (arcs_of task) number).tail ≡ u) × ((arc_at (arcs_of task) number).head ≡ v)
    are = both_are (arc_at (arcs_of task) number).tail (arc_at (arcs_of task) number).head u v (passes_at_first (joins u v) (arcs_of task) _ there)

-- the arcs of a route, from a place on
pub way_for : RouteTask → ℕ → List ℕ → List ℕ
way_for task u [] = arc_number task u (customers task + 1) ∷ []
way_for task u (v ∷ more) = arc_number task u v ∷ way_for task v more

abbrev pub IsSparse : List ℕ → Type 0
IsSparse route = (v : ℕ) → count_by (λ x. x == v) route ≤ 1

pub rest_sparse : (v : ℕ) (more : List ℕ) → IsSparse (v ∷ more) → IsSparse more
rest_sparse v more sparse w = let l = sparse w in let e = sum_by-cons (λ x. if x == w then 1 else 0) v more in omega (arith, l, e)

pub not_again : (v : ℕ) (more : List ℕ) → IsSparse (v ∷ more) → count_by (λ x. x == v) more ≡ 0
not_again v more sparse =
    let l = sparse v in
    let e = sum_by-cons (λ x. if x == v then 1 else 0) v more in
    let here : cond {A = ℕ} (v == v) 1 0 ≡ 1 = own v in
    omega (arith, l, e, here)
  where
    own : (x : ℕ) → cond {A = ℕ} (x == x) 1 0 ≡ 1
    own x = let t : (x == x) ≡ true = grind (arith, nat_tests) in ap (λ b. cond {A = ℕ} b 1 0) t

not_next : (v w : ℕ) (more : List ℕ) → IsSparse (v ∷ w ∷ more) → w ≢ v
not_next v w more sparse same =
    let none = not_again v (w ∷ more) sparse in
    let e = sum_by-cons (λ x. if x == v then 1 else 0) w more in
    let here : cond {A = ℕ} (w == v) 1 0 ≡ 1 = own w v same in
    omega (arith, none, e, here)
  where
    own : (x y : ℕ) → x ≡ y → cond {A = ℕ} (x == y) 1 0 ≡ 1
    own x y s = let t : (x == y) ≡ true = grind (arith, nat_tests) in ap (λ b. cond {A = ℕ} b 1 0) t

inner_head : (n u v : ℕ) → v ≤ n → v ≢ u → is_head n u v ≡ true
inner_head n u v l differ = grind (arith, nat_tests)

last_head : (n u : ℕ) → 1 ≤ u → u ≤ n → is_head n u (n + 1) ≡ true
last_head n u some l = grind (arith, nat_tests)

-- the way is one, from a customer and from the depot
way_from : (task : RouteTask) (u : ℕ) (route : List ℕ) → 1 ≤ u → u ≤ customers task → All (IsCustomer task) route → IsSparse (u ∷ route) → IsWay task u (way_for task u route) route
unfolding way_for
way_from task u [] some l are sparse = (step_made task u (customers task + 1) l (omega arith) (omega arith) (last_head (customers task) u some l), refl)
way_from task u (v ∷ more) some l are sparse =
    let is : IsCustomer task v = are 0 v (omega arith) in (
      step_made task u v l is.0 (omega (arith, is.1)) (inner_head (customers task) u v is.1 (not_next u v more sparse)),
      is.1,
      way_from task v more is.0 is.1 (λ k d h. are (suc k) d (omega (arith, h))) (rest_sparse u (v ∷ more) sparse),
    )

pub way_made : (task : RouteTask) (route : List ℕ) → 1 ≤ length route → All (IsCustomer task) route → IsSparse route → IsWay task 0 (way_for task 0 route) route
unfolding way_for
way_made task [] some are sparse = absurd (omega (arith, some))
way_made task (v ∷ more) some are sparse =
    let is : IsCustomer task v = are 0 v (omega arith) in (
      step_made task 0 v (omega arith) is.0 (omega (arith, is.1)) (inner_head (customers task) 0 v is.1 (λ e. omega (arith, e, is.0))),
      is.1,
      way_from task v more is.0 is.1 (λ k d h. are (suc k) d (omega (arith, h))) sparse,
    )

pub way_leads : (task : RouteTask) (u : ℕ) (arcs route : List ℕ) → IsWay task u arcs route → Leads (graph_of task) u arcs (customers task + 1)
way_leads task u [] route way = absurd way
way_leads task u (a ∷ rest) [] way = (way.0.there, way.0.tail, subst (λ (xs : List ℕ). Leads (graph_of task) (arc_at (arcs_of task) a).head xs (customers task + 1)) (sym way.1) way.0.head)
way_leads task u (a ∷ rest) (v ∷ more) way = (way.0.there, way.0.tail, subst (λ (w : ℕ). Leads (graph_of task) w rest (customers task + 1)) (sym way.0.head) (way_leads task v rest more way.2))

pub way_visits : (task : RouteTask) (u : ℕ) (arcs route : List ℕ) → IsWay task u arcs route → visited task arcs ≡ route
way_visits task u [] route way = absurd way
way_visits task u (a ∷ rest) [] way =
    let past : nat_lt (customers task) (arc_at (arcs_of task) a).head ≡ true = ap (nat_lt (customers task)) way.0.head ∙ more (customers task) in
    (λ i. cond (not (past i)) ((arc_at (arcs_of task) a).head ∷ visited task rest) (visited task rest)) ∙ ap (visited task) way.1
  where
    more : (n : ℕ) → nat_lt n (n + 1) ≡ true
    more n = grind (arith, nat_tests)
way_visits task u (a ∷ rest) (v ∷ more) way =
    let inside : nat_lt (customers task) (arc_at (arcs_of task) a).head ≡ false = ap (nat_lt (customers task)) way.0.head ∙ within (customers task) v way.1 in
    (λ i. cond (not (inside i)) ((arc_at (arcs_of task) a).head ∷ visited task rest) (visited task rest))
    ∙ (λ i. way.0.head i ∷ way_visits task v rest more way.2 i)
  where
    within : (n x : ℕ) → x ≤ n → nat_lt n x ≡ false
    within n x l = grind (arith, nat_tests)

-- amounts over an arc
moved_laid : (t l : Bool) (time stops load x y z : ℤ) (wt ws wl : Window) → moved (laid t l time stops load (pos 0)) (laid t l x y z (pos 0)) (laid t l wt ws wl (window (pos 0) (pos 0)))
    ≡ laid t l (int_max wt.low (time +ℤ x)) (int_max ws.low (stops +ℤ y)) (int_max wl.low (load +ℤ z)) (pos 0)
moved_laid true true time stops load x y z wt ws wl = refl
moved_laid true false time stops load x y z wt ws wl = refl
moved_laid false true time stops load x y z wt ws wl = refl
moved_laid false false time stops load x y z wt ws wl = refl

below_laid : (t l : Bool) (time stops load : ℤ) (wt ws wl : Window) → (t ≡ true → time ≤ℤ wt.high) → stops ≤ℤ ws.high → load ≤ℤ wl.high → AreBelow (laid t l time stops load (pos 0)) (laid t l wt ws wl (window (pos 0) (pos 0)))
below_laid true true time stops load wt ws wl p q r = at_each _ (p refl) r (omega (arith, ints)) (omega (arith, ints)) (omega (arith, ints)) (omega (arith, ints))
below_laid true false time stops load wt ws wl p q r = at_each _ (p refl) q r (omega (arith, ints)) (omega (arith, ints)) (omega (arith, ints))
below_laid false true time stops load wt ws wl p q r = at_each _ r (omega (arith, ints)) (omega (arith, ints)) (omega (arith, ints)) (omega (arith, ints)) (omega (arith, ints))
below_laid false false time stops load wt ws wl p q r = at_each _ q (omega (arith, ints)) r (omega (arith, ints)) (omega (arith, ints)) (omega (arith, ints))

-- a step leads to these amounts, and the windows take them
over_made : (task : RouteTask) (u a v : ℕ) (value : Values) (time stops load : ℤ) → value.at ≡ laid (is_timed task.style) (is_load_main task) time stops load (pos 0) → IsStep task u a v → v ≤ customers task + 1
    → (over_of (graph_of task) value a).at ≡ laid (is_timed task.style) (is_load_main task) (time_after task u time v) (int_max (pos 0) (stops +ℤ stop_need (customers task) v)) (int_max (pos 0) (load +ℤ (place_at task v).demand)) (pos 0)
over_made task u a v value time stops load e s l =
    (λ i. moved (e i) (step_needs task u a v s i) (step_windows task u a v s l i))
    ∙ moved_laid (is_timed task.style) (is_load_main task) time stops load (time_need task u v) (stop_need (customers task) v) (place_at task v).demand
    (window (pos 10 *ℤ (place_at task v).ready) (pos 10 *ℤ (place_at task v).due)) (window (pos 0) (pos (customers task))) (window (pos 0) task.capacity)

takes_made : (task : RouteTask) (u a v : ℕ) (value : Values) (time stops load : ℤ) → value.at ≡ laid (is_timed task.style) (is_load_main task) time stops load (pos 0) → IsStep task u a v → v ≤ customers task + 1
    → (is_timed task.style ≡ true → time_after task u time v ≤ℤ (pos 10 *ℤ (place_at task v).due)) → int_max (pos 0) (stops +ℤ stop_need (customers task) v) ≤ℤ pos (customers task) → int_max (pos 0) (load +ℤ (place_at task v).demand) ≤ℤ task.capacity
    → Takes (graph_of task) value a
takes_made task u a v value time stops load e s l p q r =
    let fits = below_laid (is_timed task.style) (is_load_main task) (time_after task u time v) (int_max (pos 0) (stops +ℤ stop_need (customers task) v)) (int_max (pos 0) (load +ℤ (place_at task v).demand))
    (window (pos 10 *ℤ (place_at task v).ready) (pos 10 *ℤ (place_at task v).due)) (window (pos 0) (pos (customers task))) (window (pos 0) task.capacity) p q r in
    subst (λ (xs : List ℤ). AreBelow xs (vertex_at (vertices_of task) (arc_at (arcs_of task) a).head).windows) (sym (over_made task u a v value time stops load e s l))
    (subst (λ (ws : List Window). AreBelow (laid (is_timed task.style) (is_load_main task) (time_after task u time v) (int_max (pos 0) (stops +ℤ stop_need (customers task) v)) (int_max (pos 0) (load +ℤ (place_at task v).demand)) (pos 0)) ws) (sym (step_windows task u a v s l)) fits)

load_low : (task : RouteTask) (route : List ℕ) → TaskFits task → pos 0 ≤ℤ load_of task route
load_low task [] fits = omega (arith, ints)
load_low task (v ∷ more) fits = let here = (place_fits task v fits).demanded.0 in let rest = load_low task more fits in omega (arith, ints, here, rest)

stop_there : (n v : ℕ) → v ≤ n → stop_need n v ≡ pos 1
stop_there n v l = let t : nat_lt n v ≡ false = grind (arith, nat_tests) in ap (λ b. if b then pos 0 else pos 1) t

stop_past : (n : ℕ) → stop_need n (n + 1) ≡ pos 0
stop_past n = let t : nat_lt n (n + 1) ≡ true = grind (arith, nat_tests) in ap (λ b. if b then pos 0 else pos 1) t

pub way_passes : (task : RouteTask) (u : ℕ) (arcs route : List ℕ) (value : Values) (time stops load : ℤ) → TaskFits task → IsWay task u arcs route → value.at ≡ laid (is_timed task.style) (is_load_main task) time stops load (pos 0)
    → (is_timed task.style ≡ true → KeepsTimes task u time route) → pos 0 ≤ℤ stops → (stops +ℤ pos (length route)) ≤ℤ pos (customers task) → pos 0 ≤ℤ load → (load +ℤ load_of task route) ≤ℤ task.capacity → Passes (graph_of task) value arcs
way_passes task u [] route value time stops load fits way e keeps low few light most = absurd way
way_passes task u (a ∷ rest) [] value time stops load fits way e keeps low few light most =
    let none = ap (λ (s : Stop). s.demand) (sink_place task) ∙ fits.depot_empty in
    let takes = takes_made task u a (customers task + 1) value time stops load e way.0 (omega arith)
    (λ t. subst (is_reached task u time) (sym (sink_place task)) (keeps t))
    (omega (arith, ints, clamps, stop_past (customers task), low, few))
    (omega (arith, ints, clamps, none, light, most)) in
    (takes, subst (λ (xs : List ℕ). Passes (graph_of task) (over_of (graph_of task) value a) xs) (sym way.1) tt)
way_passes task u (a ∷ rest) (v ∷ more) value time stops load fits way e keeps low few light most =
    let within : v ≤ customers task + 1 = omega (arith, way.1) in
    let demand = (place_fits task v fits).demanded.0 in
    let heavy = load_low task more fits in
    let one = stop_there (customers task) v way.1 in
    let takes = takes_made task u a v value time stops load e way.0 within (λ t. (keeps t).0) (omega (arith, ints, clamps, one, low, few)) (omega (arith, ints, clamps, demand, heavy, light, most)) in (
      takes,
      way_passes task v rest more (over_of (graph_of task) value a) (time_after task u time v) (int_max (pos 0) (stops +ℤ stop_need (customers task) v)) (int_max (pos 0) (load +ℤ (place_at task v).demand)) fits way.2
          (over_made task u a v value time stops load e way.0 within) (λ t. (keeps t).1)
          (omega (arith, ints, clamps)) (omega (arith, ints, clamps, one, low, few)) (omega (arith, ints, clamps)) (omega (arith, ints, clamps, demand, light, most)),
    )
