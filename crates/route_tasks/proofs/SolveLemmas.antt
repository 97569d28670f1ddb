-- Each route plan has a solution of equal cost.
use Rattle.std.proofs.Common.{◌≡◌, ◌≢◌, ℕ, zero, suc, ◌+◌, ◌-◌, ◌*◌, ◌<◌, ◌≤◌, pos, ◌*ℤ◌, ◌≤ℤ◌, List, [], ◌∷◌, length, map, get_or, Bool, true, false, not, ◌&&◌, cond, All, refl, sym, ◌∙◌, ap, subst, arith, nat_lt, inl, inr, ◌==◌, sum_by, Some, None}
use Rattle.std.specs.Prelude.{if◌then◌else◌, count_by, ◌⊎◌}
use Rattle.std.proofs.lemmas.Int.{ints}
use Rattle.std.proofs.lemmas.Bool.{cases_eq, cases_lt}
use Rattle.std.proofs.lemmas.Bool.Decides.{nat_tests}
use Rattle.std.proofs.lemmas.List.Elements.{All-map}
use Rattle.std.proofs.lemmas.List.Sums.{sum_by-cons, get_or-le-sum_by}
use Rattle.path_graph.specs.declared.parts.Vertex.{Vertex}
use Rattle.path_graph.specs.declared.parts.Window.{Window}
use Rattle.path_graph.specs.Fit.{vertex_at, window_at}
use Rattle.path_graph.specs.Sums.{sum_below, sum_over}
use Rattle.path_graph.specs.Visits.{visit_over, visits_along, visit_count, is_visit}
use Rattle.path_graph.specs.Walk.{IsFeasibleWalk, root_of}
use Rattle.path_graph.proofs.VisitLemmas.{visit_count-cons}
use Rattle.path_graph.proofs.SumLemmas.{sum_below-same, sum_below-pick}
use Rattle.path_graph.proofs.IntLemmas.{times_choice}
use Rattle.route_model.specs.declared.parts.Var.{Var}
use Rattle.route_model.specs.declared.parts.Row.{Row}
use Rattle.route_model.specs.declared.plan.Taken.{Taken}
use Rattle.route_model.specs.declared.plan.Plan.{Plan}
use Rattle.route_model.specs.Parts.{var_at, graph_in}
use Rattle.route_model.specs.Quantities.{is_mapped, uses_in, visits_in, is_of, value_of, row_sum, paths_of}
use Rattle.route_model.specs.Solution.{IsSolution, IsPath, InBox, RowHolds, IsBetween}
use Rattle.route_tasks.specs.declared.task.Style.{Style}
use Rattle.route_tasks.specs.declared.task.Style.TheVariants.{Euclid, Tenths}
use Rattle.route_tasks.specs.declared.task.RouteTask.{RouteTask}
use Rattle.route_tasks.specs.Fit.{TaskFits}
use Rattle.route_tasks.specs.Places.{customers, place_at, pairs_before, pair_number, variable, or_depot}
use Rattle.route_tasks.specs.ModelOf.{is_timed, is_load_main, laid, window, set_of, var_of, vars_of, vertices_of, graph_of, arcs_of, model_of}
use Rattle.route_tasks.specs.Routes.{IsCustomer, IsRoute, IsRoutePlan, IsOnTime, KeepsTimes, visited, routes_in, route_cost, RoutesHaveSolutionsLaw}
use Rattle.route_tasks.proofs.RangeLemmas.{before_more}
use Rattle.route_tasks.proofs.PairLemmas.{pair_at, pairs_size}
use Rattle.route_tasks.proofs.ArcLemmas.{arc_is}
use Rattle.route_tasks.proofs.FitLemmas.{vertex_is}
use Rattle.route_tasks.proofs.ModelLemmas.{rows_size}
use Rattle.route_tasks.proofs.WayLemmas.{IsWay, source_windows}
use Rattle.route_tasks.proofs.CostLemmas.{arc_variable, same_pair, variable_swap, step_variable, step_from, step_differs, inside_head, sink_head}
use Rattle.route_tasks.proofs.PlanLemmas.{IsOnce, sums_over, over_each, count_items, mapped_test, plain_quantity, row_at_is, row_value, plan_price, sum_mapped}
use Rattle.route_tasks.proofs.MadeLemmas.{way_for, IsSparse, rest_sparse, not_again, way_made, way_leads, way_visits, way_passes}

-- customers stand at their places: the lengths of the routes sum to n
one_place : (n x : ℕ) → 1 ≤ x → x ≤ n → sum_below n (λ k. pos 1 *ℤ pos (if x == k + 1 then 1 else 0)) ≡ pos 1
one_place n x some l =
    (λ i. sum_below n (λ k. times_choice (x == k + 1) (pos 1) i))
    ∙ (sum_below-same n (λ k. if x == k + 1 then pos 1 else pos 0) (λ k. if (x - 1) == k then pos 1 else pos 0) (λ k h. ap (λ b. if b then pos 1 else pos 0) (tests k))
    ∙ sum_below-pick (λ k. pos 1) (x - 1) n (omega (arith, some, l)))
  where
    tests : (k : ℕ) → (x == k + 1) ≡ ((x - 1) == k)
    tests k = elim (cases_eq x (k + 1)) [
      | inl same ↦ let s : (x == k + 1) ≡ true = grind (arith, nat_tests) in let back : x - 1 ≡ k = omega (arith, same) in let t : ((x - 1) == k) ≡ true = grind (arith, nat_tests) in s ∙ sym t
      | inr apart ↦ let s : (x == k + 1) ≡ false = grind (arith, nat_tests) in let back : x - 1 ≢ k = λ e. apart (omega (arith, e, some)) in let t : ((x - 1) == k) ≡ false = grind (arith, nat_tests) in s ∙ sym t
    ]

ones : {X : Type 0} (xs : List X) → sum_over (λ x. pos 1) xs ≡ pos (length xs)
ones [] = refl
ones (x ∷ xs) = let rest = ones xs in omega (arith, ints, rest)

lengths_over : {X : Type 0} (f : X → ℕ) (xs : List X) → sum_over (λ x. pos (f x)) xs ≡ pos (sum_by f xs)
lengths_over f [] = refl
lengths_over f (x ∷ xs) = let rest = lengths_over f xs in omega (arith, ints, rest, sum_by-cons f x xs)

units : (n : ℕ) → sum_below n (λ k. pos 1 *ℤ pos 1) ≡ pos n
units zero = refl
units (suc n) = let rest = units n in omega (arith, ints, rest)

route_size : (task : RouteTask) (route : List ℕ) → All (IsCustomer task) route → sum_below (customers task) (λ k. pos 1 *ℤ pos (count_by (λ x. x == k + 1) route)) ≡ pos (length route)
route_size task route are =
    sums_over (customers task) (λ k. pos 1) (λ k x. if x == k + 1 then 1 else 0) route
    ∙ (over_each (λ x. sum_below (customers task) (λ k. pos 1 *ℤ pos (if x == k + 1 then 1 else 0))) (λ x. pos 1) route (λ k d l. one_place (customers task) (get_or route k d) (are k d l).0 (are k d l).1)
    ∙ ones route)

total_size : (task : RouteTask) (routes : List (List ℕ)) → IsRoutePlan task routes → sum_by length routes ≡ customers task
total_size task routes plan =
    let left : sum_below (customers task) (λ k. pos 1 *ℤ pos (sum_by (λ route. count_by (λ x. x == k + 1) route) routes)) ≡ pos (customers task) =
    sum_below-same (customers task) (λ k. pos 1 *ℤ pos (sum_by (λ route. count_by (λ x. x == k + 1) route) routes)) (λ k. pos 1 *ℤ pos 1) (λ k l. ap (λ c. pos 1 *ℤ pos c) (plan.once (k + 1) (omega arith, omega (arith, l))))
    ∙ units (customers task) in
    let right : sum_below (customers task) (λ k. pos 1 *ℤ pos (sum_by (λ route. count_by (λ x. x == k + 1) route) routes)) ≡ pos (sum_by length routes) =
    sums_over (customers task) (λ k. pos 1) (λ k (route : List ℕ). count_by (λ x. x == k + 1) route) routes
    ∙ (over_each (λ (route : List ℕ). sum_below (customers task) (λ k. pos 1 *ℤ pos (count_by (λ x. x == k + 1) route))) (λ (route : List ℕ). pos (length route)) routes (λ k d l. route_size task (get_or routes k d) (plan.each k d l).customers_only)
    ∙ lengths_over length routes) in
    omega (arith, ints, left, right)

each_at_least : (f : List ℕ → ℕ) (xs : List (List ℕ)) → All (λ x. 1 ≤ f x) xs → length xs ≤ sum_by f xs
each_at_least f [] each = omega arith
each_at_least f (x ∷ xs) each =
    let rest = each_at_least f xs (λ k d l. each (suc k) d (omega (arith, l))) in
    omega (arith, rest, each 0 x (omega arith), sum_by-cons f x xs)

few_routes : (task : RouteTask) (routes : List (List ℕ)) → IsRoutePlan task routes → length routes ≤ customers task
few_routes task routes plan = omega (arith, total_size task routes plan, each_at_least length routes (λ k d l. (plan.each k d l).some))

-- no customer stands twice on a route
not_there : (task : RouteTask) (route : List ℕ) (v : ℕ) → All (IsCustomer task) route → (IsCustomer task v → ⊥) → count_by (λ x. x == v) route ≡ 0
not_there task [] v are no_customer = refl
not_there task (w ∷ more) v are no_customer =
    let apart : w ≢ v = λ e. no_customer (subst (IsCustomer task) e (are 0 w (omega arith))) in
    let t : (w == v) ≡ false = grind (arith, nat_tests) in
    let here : cond {A = ℕ} (w == v) 1 0 ≡ 0 = ap (λ b. cond {A = ℕ} b 1 0) t in
    let rest = not_there task more v (λ k d l. are (suc k) d (omega (arith, l))) no_customer in
    omega (arith, here, rest, sum_by-cons (λ x. if x == v then 1 else 0) w more)

route_sparse : (task : RouteTask) (routes : List (List ℕ)) (k : ℕ) (d : List ℕ) → IsRoutePlan task routes → k < length routes → IsSparse (get_or routes k d)
route_sparse task routes k d plan l v = elim (cases_lt 0 v) [
  | inl some ↦ elim (cases_lt (customers task) v) [
    | inl past ↦ let e = not_there task (get_or routes k d) v (plan.each k d l).customers_only (λ is. omega (arith, is.1, past)) in omega (arith, e)
    | inr within ↦ let one = get_or-le-sum_by (count_by (λ x. x == v)) routes k d l in omega (arith, one, plan.once v (some, within))
  ]
  | inr none ↦ let e = not_there task (get_or routes k d) v (plan.each k d l).customers_only (λ is. omega (arith, is.0, none)) in omega (arith, e)
]

-- the walk of a route is feasible
root_made : (t l : Bool) (wt ws wl : Window) → map (λ k. (window_at (laid t l wt ws wl (window (pos 0) (pos 0))) k).low) (0 ∷ 1 ∷ 2 ∷ 3 ∷ 4 ∷ 5 ∷ []) ≡ laid t l wt.low ws.low wl.low (pos 0)
root_made true true wt ws wl = refl
root_made true false wt ws wl = refl
root_made false true wt ws wl = refl
root_made false false wt ws wl = refl

keeps_times : (task : RouteTask) (style : Style) (route : List ℕ) → IsOnTime style task route → is_timed style ≡ true → KeepsTimes task 0 (pos 10 *ℤ (place_at task 0).ready) route
keeps_times task Euclid route on e = absurd (apart e)
  where
    apart : false ≡ true → ⊥
    apart h = cc
keeps_times task Tenths route on e = on

walk_made : (task : RouteTask) (route : List ℕ) → TaskFits task → IsRoute task route → IsSparse route → length route ≤ customers task → IsFeasibleWalk (graph_of task) (way_for task 0 route)
walk_made task route fits is sparse few = record {
  walk = way_leads task 0 (way_for task 0 route) route way;
  passes = way_passes task 0 (way_for task 0 route) route (root_of (graph_of task)) (pos 10 *ℤ (place_at task 0).ready) (pos 0) (pos 0) fits way root
      (keeps_times task task.style route is.on_time) (omega (arith, ints)) (omega (arith, ints, few)) (omega (arith, ints)) (omega (arith, ints, is.load_fits));
}
  where
    way : IsWay task 0 (way_for task 0 route) route
    way = way_made task route is.some is.customers_only sparse

    root : (root_of (graph_of task)).at ≡ laid (is_timed task.style) (is_load_main task) (pos 10 *ℤ (place_at task 0).ready) (pos 0) (pos 0) (pos 0)
    root =
        (λ i. map (λ k. (window_at (source_windows task i) k).low) (0 ∷ 1 ∷ 2 ∷ 3 ∷ 4 ∷ 5 ∷ []))
        ∙ root_made (is_timed task.style) (is_load_main task) (window (pos 10 *ℤ (place_at task 0).ready) (pos 10 *ℤ (place_at task 0).due)) (window (pos 0) (pos (customers task))) (window (pos 0) task.capacity)

-- how often a way visits a set
way_sets : (task : RouteTask) (u : ℕ) (arcs route : List ℕ) (s : ℕ) → IsWay task u arcs route → visit_count s (visits_along (graph_of task) arcs) ≡ count_by (λ x. x == s + 1) route
way_sets task u [] route s way = absurd way
way_sets task u (a ∷ rest) [] s way =
    let set : visit_over (graph_of task) a ≡ None =
    ap (λ k. (vertex_at (vertices_of task) k).set) way.0.head ∙ (ap (λ (x : Vertex). x.set) (vertex_is task (customers task + 1) (omega arith)) ∙ no_set (customers task)) in
    let here : cond {A = ℕ} (is_visit s (visit_over (graph_of task) a)) 1 0 ≡ 0 = ap (λ x. cond {A = ℕ} (is_visit s x) 1 0) set in
    let nothing : visit_count s (visits_along (graph_of task) rest) ≡ 0 = ap (λ xs. visit_count s (visits_along (graph_of task) xs)) way.1 in
    omega (arith, here, nothing, visit_count-cons s (visit_over (graph_of task) a) (visits_along (graph_of task) rest))
  where
    no_set : (n : ℕ) → set_of n (n + 1) ≡ None
    no_set n = let t : (nat_lt 0 (n + 1) && not (nat_lt n (n + 1))) ≡ false = grind (arith, nat_tests) in ap (λ b. if b then Some (n + 1 - 1) else None) t
way_sets task u (a ∷ rest) (v ∷ more) s way =
    let some : 1 ≤ v = omega (arith, (arc_is task a way.0.there).some, way.0.head) in
    let set : visit_over (graph_of task) a ≡ Some (v - 1) =
    ap (λ k. (vertex_at (vertices_of task) k).set) way.0.head ∙ (ap (λ (x : Vertex). x.set) (vertex_is task v (omega (arith, way.1))) ∙ own_set (customers task) v some way.1) in
    let here : cond {A = ℕ} (is_visit s (visit_over (graph_of task) a)) 1 0 ≡ cond {A = ℕ} (v == s + 1) 1 0 =
    ap (λ x. cond {A = ℕ} (is_visit s x) 1 0) set ∙ ap (λ b. cond {A = ℕ} b 1 0) (tests v some) in
    omega (arith, here, way_sets task v rest more s way.2, visit_count-cons s (visit_over (graph_of task) a) (visits_along (graph_of task) rest), sum_by-cons (λ x. if x == s + 1 then 1 else 0) v more)
  where
    own_set : (n x : ℕ) → 1 ≤ x → x ≤ n → set_of n x ≡ Some (x - 1)
    own_set n x some l = let t : (nat_lt 0 x && not (nat_lt n x)) ≡ true = grind (arith, nat_tests) in ap (λ b. if b then Some (x - 1) else None) t

    tests : (x : ℕ) → 1 ≤ x → ((x - 1) == s) ≡ (x == s + 1)
    tests x some = elim (cases_eq x (s + 1)) [
      | inl same ↦ let p : (x == s + 1) ≡ true = grind (arith, nat_tests) in let back : x - 1 ≡ s = omega (arith, same) in let t : ((x - 1) == s) ≡ true = grind (arith, nat_tests) in t ∙ sym p
      | inr apart ↦ let p : (x == s + 1) ≡ false = grind (arith, nat_tests) in let back : x - 1 ≢ s = λ e. apart (omega (arith, e, some)) in let t : ((x - 1) == s) ≡ false = grind (arith, nat_tests) in t ∙ sym p
    ]

-- how often a way uses the variable of a pair
abbrev uses : RouteTask → ℕ → List ℕ → ℕ
uses task j arcs = uses_in (model_of task).maps j 0 arcs

uses_next : (task : RouteTask) (j a : ℕ) (rest : List ℕ) → a < length (arcs_of task) → uses task j (a ∷ rest) ≡ cond (arc_variable task a == j) 1 0 + uses task j rest
uses_next task j a rest l =
    sum_by-cons (λ b. if is_mapped (model_of task).maps j 0 b then 1 else 0) a rest
    ∙ ap (λ b. cond b 1 0 + uses task j rest) (mapped_test task j a l)

-- a step that uses the variable of p and q begins or ends at p
step_uses : (n u w p q : ℕ) → u ≤ n → w ≤ n → u ≢ w → p ≤ n → q ≤ n → p ≢ q → cond (variable n u w == variable n p q) 1 0 ≤ cond (u == p) 1 0 + cond (w == p) 1 0
step_uses n u w p q a b c d e f = elim (cases_eq (variable n u w) (variable n p q)) [
  | inl same ↦
      let pair = same_pair n u w p q a b c d e f same in
      elim (cases_eq u p) [
        | inl first ↦ let t : (u == p) ≡ true = grind (arith, nat_tests) in ends (variable n u w == variable n p q) (u == p) (w == p) (inl t)
        | inr second ↦
            let at : w ≡ p = omega (arith, pair.0, pair.1, second) in
            let t : (w == p) ≡ true = grind (arith, nat_tests) in
            ends (variable n u w == variable n p q) (u == p) (w == p) (inr t)
      ]
  | inr apart ↦
      let t : (variable n u w == variable n p q) ≡ false = grind (arith, nat_tests) in
      let z : cond {A = ℕ} (variable n u w == variable n p q) 1 0 ≡ 0 = ap (λ x. cond {A = ℕ} x 1 0) t in
      omega (arith, z)
]
  where
    ends : (x y z : Bool) → (y ≡ true) ⊎ (z ≡ true) → cond {A = ℕ} x 1 0 ≤ cond y 1 0 + cond z 1 0
    ends x y z (inl t) = subst (λ (b : Bool). cond {A = ℕ} x 1 0 ≤ cond b 1 0 + cond z 1 0) (sym t) (low x z)
      where
        low : (x z : Bool) → cond {A = ℕ} x 1 0 ≤ 1 + cond z 1 0
        low true z = omega arith
        low false z = omega arith
    ends x y z (inr t) = subst (λ (b : Bool). cond {A = ℕ} x 1 0 ≤ cond y 1 0 + cond b 1 0) (sym t) (low x y)
      where
        low : (x y : Bool) → cond {A = ℕ} x 1 0 ≤ cond y 1 0 + 1
        low true y = omega arith
        low false y = omega arith

pub uses_touch : (task : RouteTask) (u : ℕ) (arcs route : List ℕ) (p q : ℕ) → 1 ≤ p → p ≤ customers task → q ≤ customers task → p ≢ q → IsWay task u arcs route
    → uses task (variable (customers task) p q) arcs ≤ cond (u == p) 1 0 + 2 * count_by (λ x. x == p) route
uses_touch task u [] route p q some l m differ way = absurd way
uses_touch task u (a ∷ rest) [] p q some l m differ way =
    let e = sink_head (customers task) in
    let d = step_differs task u a (customers task + 1) 0 way.0 e in
    let one = step_uses (customers task) u 0 p q (step_from task u a (customers task + 1) way.0) d.0 d.1 l m differ in
    let is : cond {A = ℕ} (arc_variable task a == variable (customers task) p q) 1 0 ≡ cond (variable (customers task) u 0 == variable (customers task) p q) 1 0 =
    ap (λ x. cond {A = ℕ} (x == variable (customers task) p q) 1 0) (step_variable task u a (customers task + 1) 0 way.0 e) in
    let t : (0 == p) ≡ false = grind (arith, nat_tests) in
    let z : cond {A = ℕ} (0 == p) 1 0 ≡ 0 = ap (λ b. cond {A = ℕ} b 1 0) t in
    let nothing : uses task (variable (customers task) p q) rest ≡ 0 = ap (uses task (variable (customers task) p q)) way.1 in
    omega (arith, one, is, z, nothing, uses_next task (variable (customers task) p q) a rest way.0.there)
uses_touch task u (a ∷ rest) (v ∷ more) p q some l m differ way =
    let e = inside_head (customers task) v way.1 in
    let d = step_differs task u a v v way.0 e in
    let one = step_uses (customers task) u v p q (step_from task u a v way.0) d.0 d.1 l m differ in
    let is : cond {A = ℕ} (arc_variable task a == variable (customers task) p q) 1 0 ≡ cond (variable (customers task) u v == variable (customers task) p q) 1 0 =
    ap (λ x. cond {A = ℕ} (x == variable (customers task) p q) 1 0) (step_variable task u a v v way.0 e) in
    let later = uses_touch task v rest more p q some l m differ way.2 in
    omega (arith, one, is, later, uses_next task (variable (customers task) p q) a rest way.0.there, sum_by-cons (λ x. if x == p then 1 else 0) v more)

-- where no place stands twice, a pair of customers is used once
at_most_one : (b : Bool) → cond {A = ℕ} b 1 0 ≤ 1
at_most_one true = omega arith
at_most_one false = omega arith

way_once : (task : RouteTask) (u : ℕ) (arcs route : List ℕ) (p q : ℕ) → 1 ≤ u → 1 ≤ p → p ≤ customers task → 1 ≤ q → q ≤ customers task → p ≢ q → IsSparse (u ∷ route) → IsWay task u arcs route → uses task (variable (customers task) p q) arcs ≤ 1
way_once task u [] route p q first some l more m differ sparse way = absurd way
way_once task u (a ∷ rest) [] p q first some l more m differ sparse way =
    let nothing : uses task (variable (customers task) p q) rest ≡ 0 = ap (uses task (variable (customers task) p q)) way.1 in
    omega (arith, nothing, uses_next task (variable (customers task) p q) a rest way.0.there, at_most_one (arc_variable task a == variable (customers task) p q))
way_once task u (a ∷ rest) (v ∷ others) p q first some l more m differ sparse way =
    by_first (cases_eq (variable (customers task) u v) (variable (customers task) p q)) (way_once task v rest others p q (omega (arith, (arc_is task a way.0.there).some, way.0.head)) some l more m differ (rest_sparse u (v ∷ others) sparse) way.2)
  where
    e : or_depot (customers task) v ≡ v
    e = inside_head (customers task) v way.1

    d : (v ≤ customers task) × (u ≢ v)
    d = step_differs task u a v v way.0 e

    next : uses task (variable (customers task) p q) (a ∷ rest) ≡ cond (arc_variable task a == variable (customers task) p q) 1 0 + uses task (variable (customers task) p q) rest
    next = uses_next task (variable (customers task) p q) a rest way.0.there

    none_later : uses task (variable (customers task) u v) rest ≤ 0
    none_later =
        let touch = uses_touch task v rest others u v first (step_from task u a v way.0) way.1 d.1 way.2 in
        let apart : v ≢ u = λ s. d.1 (sym s) in
        let t : (v == u) ≡ false = grind (arith, nat_tests) in
        let z : cond {A = ℕ} (v == u) 1 0 ≡ 0 = ap (λ b. cond {A = ℕ} b 1 0) t in
        omega (arith, touch, z, not_again u (v ∷ others) sparse, sum_by-cons (λ x. if x == u then 1 else 0) v others)

    by_first : (variable (customers task) u v ≡ variable (customers task) p q) ⊎ (variable (customers task) u v ≢ variable (customers task) p q) → uses task (variable (customers task) p q) rest ≤ 1 → uses task (variable (customers task) p q) (a ∷ rest) ≤ 1
    by_first (inl same) later =
        let here : uses task (variable (customers task) p q) rest ≤ 0 = subst (λ (j : ℕ). uses task j rest ≤ 0) same none_later in
        omega (arith, next, here, at_most_one (arc_variable task a == variable (customers task) p q))
    by_first (inr apart) later =
        let at : arc_variable task a ≢ variable (customers task) p q = λ s. apart (sym (step_variable task u a v v way.0 e) ∙ s) in
        let t : (arc_variable task a == variable (customers task) p q) ≡ false = grind (arith, nat_tests) in
        let z : cond {A = ℕ} (arc_variable task a == variable (customers task) p q) 1 0 ≡ 0 = ap (λ b. cond {A = ℕ} b 1 0) t in
        omega (arith, next, z, later)

route_once : (task : RouteTask) (arcs route : List ℕ) (p q : ℕ) → 1 ≤ p → p ≤ customers task → 1 ≤ q → q ≤ customers task → p ≢ q → IsSparse route → IsWay task 0 arcs route → uses task (variable (customers task) p q) arcs ≤ 1
route_once task [] route p q some l more m differ sparse way = absurd way
route_once task (a ∷ rest) [] p q some l more m differ sparse way =
    let nothing : uses task (variable (customers task) p q) rest ≡ 0 = ap (uses task (variable (customers task) p q)) way.1 in
    omega (arith, nothing, uses_next task (variable (customers task) p q) a rest way.0.there, at_most_one (arc_variable task a == variable (customers task) p q))
route_once task (a ∷ rest) (v ∷ others) p q some l more m differ sparse way =
    let e = inside_head (customers task) v way.1 in
    let d = step_differs task 0 a v v way.0 e in
    let at : arc_variable task a ≢ variable (customers task) p q = λ s.
    let pair = same_pair (customers task) 0 v p q (omega arith) way.1 d.1 l m differ (sym (step_variable task 0 a v v way.0 e) ∙ s) in
    omega (arith, pair.0, some, more) in
    let t : (arc_variable task a == variable (customers task) p q) ≡ false = grind (arith, nat_tests) in
    let z : cond {A = ℕ} (arc_variable task a == variable (customers task) p q) 1 0 ≡ 0 = ap (λ b. cond {A = ℕ} b 1 0) t in
    let later = way_once task v rest others p q (omega (arith, (arc_is task a way.0.there).some, way.0.head)) some l more m differ sparse way.2 in
    omega (arith, z, later, uses_next task (variable (customers task) p q) a rest way.0.there)

-- each variable is that of a pair
record IsPair (n j : ℕ) : Type 0 where
  low : ℕ
  high : ℕ
  order : low < high
  within : high ≤ n
  is : j ≡ pair_number n low high

pair_of : (n m j : ℕ) → m ≤ n → j < pairs_before n m → IsPair n j
pair_of n zero j l below = absurd (omega (arith, below))
pair_of n (suc m) j l below = by_row (cases_lt j (pairs_before n m)) (pair_of n m j (omega (arith, l)))
  where
    more : pairs_before n (suc m) ≡ pairs_before n m + (n - m)
    more = ap (pairs_before n) (next m) ∙ before_more n m
      where
        next : (k : ℕ) → suc k ≡ k + 1
        next k = omega arith

    by_row : (j < pairs_before n m) ⊎ (pairs_before n m ≤ j) → (j < pairs_before n m → IsPair n j) → IsPair n j
    by_row (inl less) before = before less
    by_row (inr least) before = record { low = m; high = m + 1 + (j - pairs_before n m); order = omega arith; within = omega (arith, more, below, least, l); is = omega (arith, least) }

pair_variable : (n low high : ℕ) → low < high → variable n low high ≡ pair_number n low high
pair_variable n low high l = let t : nat_lt low high ≡ true = grind (arith, nat_tests) in ap (λ b. if b then pair_number n low high else pair_number n high low) t

-- sums that are at most others
sum_at_most : {X : Type 0} (f h : X → ℕ) (xs : List X) → All (λ x. f x ≤ h x) xs → sum_by f xs ≤ sum_by h xs
sum_at_most f h [] each = omega arith
sum_at_most f h (x ∷ xs) each =
    let rest = sum_at_most f h xs (λ k d l. each (suc k) d (omega (arith, l))) in
    omega (arith, rest, each 0 x (omega arith), sum_by-cons f x xs, sum_by-cons h x xs)

twice_sum : {X : Type 0} (f : X → ℕ) (xs : List X) → sum_by (λ x. 2 * f x) xs ≡ 2 * sum_by f xs
twice_sum f [] = refl
twice_sum f (x ∷ xs) = let rest = twice_sum f xs in omega (arith, rest, sum_by-cons f x xs, sum_by-cons (λ y. 2 * f y) x xs)

-- the plan of routes
abbrev taken_for : RouteTask → List ℕ → Taken
taken_for task route = record { graph = 0; count = 1; arcs = way_for task 0 route }

abbrev plan_for : RouteTask → List (List ℕ) → Plan
plan_for task routes = record { paths = map (taken_for task) routes }

module _ (task : RouteTask) (fits : TaskFits task) (routes : List (List ℕ)) (plan : IsRoutePlan task routes) where
  way_at : (k : ℕ) (d : List ℕ) → k < length routes → IsWay task 0 (way_for task 0 (get_or routes k d)) (get_or routes k d)
  way_at k d l = way_made task (get_or routes k d) (plan.each k d l).some (plan.each k d l).customers_only (route_sparse task routes k d plan l)

  each_taken : All (IsOnce task) (map (taken_for task) routes)
  each_taken = All-map (IsOnce task) (taken_for task) routes (λ k d l.
      record { graph = refl; count = refl; way = subst (IsWay task 0 (way_for task 0 (get_or routes k d))) (sym (way_visits task 0 (way_for task 0 (get_or routes k d)) (get_or routes k d) (way_at k d l))) (way_at k d l) })

  each_walk : All (IsPath (model_of task)) (map (taken_for task) routes)
  each_walk = All-map (IsPath (model_of task)) (taken_for task) routes (λ k d l.
      let short = get_or-le-sum_by length routes k d l in
      record {
        graph = omega arith;
        count = omega arith;
        walk = walk_made task (get_or routes k d) fits (plan.each k d l) (route_sparse task routes k d plan l) (omega (arith, short, total_size task routes plan));
      })

  same_routes : (rs : List (List ℕ)) → All (λ r. visited task (way_for task 0 r) ≡ r) rs → map (λ (t : Taken). visited task t.arcs) (map (taken_for task) rs) ≡ rs
  same_routes [] each = refl
  same_routes (r ∷ rs) each = λ i. each 0 r (omega arith) i ∷ same_routes rs (λ k d l. each (suc k) d (omega (arith, l))) i

  routes_back : routes_in task (plan_for task routes) ≡ routes
  routes_back = same_routes routes (λ k d l. way_visits task 0 (way_for task 0 (get_or routes k d)) (get_or routes k d) (way_at k d l))

  plan_uses : (f : ℕ → List ℕ → ℕ) → sum_by (λ (t : Taken). t.count * f t.graph t.arcs) (map (taken_for task) routes) ≡ sum_by (λ r. f 0 (way_for task 0 r)) routes
  plan_uses f = plain_quantity task f (plan_for task routes) each_taken ∙ sum_mapped (λ (t : Taken). f 0 t.arcs) (taken_for task) routes

  few_taken : sum_by (λ (t : Taken). t.count * is_of 0 t.graph t.arcs) (map (taken_for task) routes) ≡ length routes
  few_taken = plan_uses (is_of 0) ∙ count_items routes

  set_taken : (s : ℕ) → s < customers task → sum_by (λ (t : Taken). t.count * visits_in (model_of task).graphs s t.graph t.arcs) (map (taken_for task) routes) ≤ 1
  set_taken s l =
      let most = sum_at_most (λ r. visits_in (model_of task).graphs s 0 (way_for task 0 r)) (λ r. count_by (λ x. x == s + 1) r) routes
      (λ k d h. let e = way_sets task 0 (way_for task 0 (get_or routes k d)) (get_or routes k d) s (way_at k d h) in omega (arith, e)) in
      let once = plan.once (s + 1) (omega arith, omega (arith, l)) in
      omega (arith, plan_uses (visits_in (model_of task).graphs s), most, once)

  pair_taken : (p q : ℕ) → 1 ≤ p → p ≤ customers task → 1 ≤ q → q ≤ customers task → p ≢ q → value_of (model_of task) (plan_for task routes) (variable (customers task) p q) ≤ 1
  pair_taken p q some l more m differ =
      let j : ℕ = variable (customers task) p q in
      let most = sum_at_most (λ r. uses task j (way_for task 0 r)) (λ r. count_by (λ x. x == p) r) routes (λ k d h.
      let once = route_once task (way_for task 0 (get_or routes k d)) (get_or routes k d) p q some l more m differ (route_sparse task routes k d plan h) (way_at k d h) in
      let touch = uses_touch task 0 (way_for task 0 (get_or routes k d)) (get_or routes k d) p q some l m differ (way_at k d h) in
      let t : (0 == p) ≡ false = grind (arith, nat_tests) in
      let z : cond {A = ℕ} (0 == p) 1 0 ≡ 0 = ap (λ b. cond {A = ℕ} b 1 0) t in
      omega (arith, once, touch, z)) in
      omega (arith, plan_uses (uses_in (model_of task).maps j), most, plan.once p (some, l))

  depot_taken : (p : ℕ) → 1 ≤ p → p ≤ customers task → value_of (model_of task) (plan_for task routes) (variable (customers task) p 0) ≤ 2
  depot_taken p some l =
      let j : ℕ = variable (customers task) p 0 in
      let differ : p ≢ 0 = λ e. omega (arith, e, some) in
      let most = sum_at_most (λ r. uses task j (way_for task 0 r)) (λ r. 2 * count_by (λ x. x == p) r) routes (λ k d h.
      let touch = uses_touch task 0 (way_for task 0 (get_or routes k d)) (get_or routes k d) p 0 some l (omega arith) differ (way_at k d h) in
      let t : (0 == p) ≡ false = grind (arith, nat_tests) in
      let z : cond {A = ℕ} (0 == p) 1 0 ≡ 0 = ap (λ b. cond {A = ℕ} b 1 0) t in
      omega (arith, touch, z)) in
      omega (arith, plan_uses (uses_in (model_of task).maps j), most, twice_sum (λ r. count_by (λ x. x == p) r) routes, plan.once p (some, l))

  var_taken : (j : ℕ) → j < length (vars_of task) → InBox (model_of task) (plan_for task routes) j
  var_taken j l = subst (λ (k : ℕ). InBox (model_of task) (plan_for task routes) k) (sym pair.is) boxed
    where
      pair : IsPair (customers task) j
      pair = pair_of (customers task) (customers task) j (omega arith) (omega (arith, l, pairs_size (customers task) (var_of task)))

      number : ℕ
      number = pair_number (customers task) pair.low pair.high

      var : var_at (vars_of task) number ≡ var_of task pair.low pair.high
      var = pair_at (customers task) pair.low pair.high (var_of task) _ pair.order pair.within

      at : variable (customers task) pair.low pair.high ≡ number
      at = pair_variable (customers task) pair.low pair.high pair.order

      box : (pos 0 ≤ℤ pos (value_of (model_of task) (plan_for task routes) number)) × (pos (value_of (model_of task) (plan_for task routes) number) ≤ℤ (var_of task pair.low pair.high).high)
      box = elim (cases_eq pair.low 0) [
        | inl depot ↦
            let t : (pair.low == 0) ≡ true = grind (arith, nat_tests) in
            let high : (var_of task pair.low pair.high).high ≡ pos 2 = ap (λ b. if b then pos 2 else pos 1) t in
            let swapped : variable (customers task) pair.high 0 ≡ number = variable_swap (customers task) pair.high 0 (λ e. omega (arith, e, pair.order)) ∙ (ap (λ k. variable (customers task) k pair.high) (sym depot) ∙ at) in
            let most = subst (λ (k : ℕ). value_of (model_of task) (plan_for task routes) k ≤ 2) swapped (depot_taken pair.high (omega (arith, pair.order)) pair.within) in
            (omega (arith, ints), omega (arith, ints, high, most))
        | inr customer ↦
            let t : (pair.low == 0) ≡ false = grind (arith, nat_tests) in
            let high : (var_of task pair.low pair.high).high ≡ pos 1 = ap (λ b. if b then pos 2 else pos 1) t in
            let most = subst (λ (k : ℕ). value_of (model_of task) (plan_for task routes) k ≤ 1) at
            (pair_taken pair.low pair.high (omega (arith, customer)) (omega (arith, pair.order, pair.within)) (omega (arith, pair.order)) pair.within (λ e. omega (arith, e, pair.order))) in
            (omega (arith, ints), omega (arith, ints, high, most))
      ]

      boxed : InBox (model_of task) (plan_for task routes) number
      boxed = subst (λ (x : Var). (x.low ≤ℤ pos (value_of (model_of task) (plan_for task routes) number)) × (pos (value_of (model_of task) (plan_for task routes) number) ≤ℤ x.high)) (sym var) box

  row_taken : (i : ℕ) → i < customers task → RowHolds (model_of task) (plan_for task routes) i
  row_taken i l =
      let v : ℕ = i + 1 in
      let value = row_value task (plan_for task routes) v each_taken (omega arith) (omega (arith, l)) in
      let sums = ap (sum_by (count_by (λ x. x == v))) routes_back in
      let mapped = sum_mapped (count_by (λ x. x == v)) (λ (t : Taken). visited task t.arcs) (map (taken_for task) routes) in
      let once = plan.once v (omega arith, omega (arith, l)) in
      let back : v - 1 ≡ i = omega arith in
      subst (λ (k : ℕ). RowHolds (model_of task) (plan_for task routes) k) back
      (subst (λ (row : Row). IsBetween row.low row.high (row_sum (model_of task) (plan_for task routes) row.terms)) (sym (row_at_is task v (omega arith) (omega (arith, l))))
      (omega (arith, ints, value, sums, mapped, once), omega (arith, ints, value, sums, mapped, once)))

  counts_taken : (g : ℕ) → g < 1 → ((graph_in (model_of task).graphs g).ends.low ≤ paths_of (plan_for task routes) g) × (paths_of (plan_for task routes) g ≤ (graph_in (model_of task).graphs g).ends.high)
  counts_taken zero h = (omega arith, omega (arith, few_taken, few_routes task routes plan, plan.few))
  counts_taken (suc g) h = absurd (omega (arith, h))

  made_solution : IsSolution (model_of task) (plan_for task routes)
  made_solution = record {
    paths = λ k l. each_walk k _ l;
    counts = counts_taken;
    sets = set_taken;
    vars = var_taken;
    rows = λ i l. row_taken i (omega (arith, l, rows_size (customers task)));
  }

pub routes_solve : RoutesHaveSolutionsLaw
routes_solve task fits routes plan = record {
  plan = plan_for task routes;
  solution = made_solution task fits routes plan;
  equal_cost = plan_price task (plan_for task routes) (each_taken task fits routes plan) ∙ ap (route_cost task) (routes_back task fits routes plan);
}
