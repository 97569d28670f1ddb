-- The routes of a solution are a route plan of equal cost.
use Rattle.std.proofs.Common.{◌≡◌, ◌≢◌, ℕ, suc, ◌+◌, ◌-◌, ◌*◌, ◌<◌, ◌≤◌, ℤ, pos, ◌+ℤ◌, ◌*ℤ◌, List, [], ◌∷◌, length, map, get_or, Bool, true, false, not, ◌&&◌, cond, All, refl, sym, ◌∙◌, ap, subst, arith, nat_lt, inl, inr, ◌==◌, sum_by, ◌||◌, Some, None, mul-le-mul}
use Rattle.std.specs.Prelude.{if◌then◌else◌, count_by}
use Rattle.std.specs.List.{list_any}
use Rattle.std.proofs.lemmas.Int.{ints}
use Rattle.std.proofs.lemmas.Bool.{cases_eq, cases_lt}
use Rattle.std.proofs.lemmas.Bool.Decides.{nat_tests}
use Rattle.std.proofs.lemmas.List.{get_or-map, length-map}
use Rattle.std.proofs.lemmas.List.Elements.{All-map}
use Rattle.std.proofs.lemmas.List.Sums.{sum_by-cons, get_or-le-sum_by}
use Rattle.std.proofs.lemmas.List.FromFn.{get_or-map-range_with_len}
use lib.IntN.{*ℤ-zero}
use Rattle.path_graph.specs.declared.parts.Vertex.{Vertex}
use Rattle.path_graph.specs.Fit.{vertex_at}
use Rattle.path_graph.specs.Sums.{sum_below, sum_over}
use Rattle.path_graph.specs.Visits.{visit_over, visits_along, visit_count, is_visit}
use Rattle.path_graph.proofs.VisitLemmas.{visit_count-cons}
use Rattle.path_graph.proofs.SumLemmas.{sum_below-same, sum_below-add, sum_below-pick, sum_below-zero}
use Rattle.path_graph.proofs.IntLemmas.{mul_z-add, times_choice}
use Rattle.route_model.specs.declared.parts.Row.{Row}
use Rattle.route_model.specs.declared.parts.RowTerm.{RowTerm}
use Rattle.route_model.specs.declared.plan.Taken.{Taken}
use Rattle.route_model.specs.declared.plan.Plan.{Plan}
use Rattle.route_model.specs.Parts.{mapped_vars, var_at, row_at, term_at}
use Rattle.route_model.specs.Quantities.{is_mapped, uses_in, quantity, value_of, visits_in, is_of, row_sum, cost_of}
use Rattle.route_model.specs.Solution.{IsSolution, IsBetween}
use Rattle.route_tasks.specs.declared.task.RouteTask.{RouteTask}
use Rattle.route_tasks.specs.Fit.{TaskFits}
use Rattle.route_tasks.specs.Places.{customers, variable, or_depot, other}
use Rattle.route_tasks.specs.ModelOf.{arcs_of, mapped_of, vars_of, vertices_of, set_of, graph_of, row_of, terms_of, model_of}
use Rattle.route_tasks.specs.Routes.{IsCustomer, IsRoute, IsRoutePlan, way_of, route_cost, visited, routes_in, numbers_of, IsNumberedPlan}
use Rattle.route_tasks.proofs.ModelLemmas.{other_place, terms_size, term_is, rows_size}
use Rattle.route_tasks.proofs.FitLemmas.{vertex_is}
use Rattle.route_tasks.proofs.WalkLemmas.{IsTaskPath, each_path}
use Rattle.route_tasks.proofs.ArcLemmas.{arc_is}
use Rattle.route_tasks.proofs.WayLemmas.{IsStep, IsWay, way_is, walk_route}
use Rattle.route_tasks.proofs.CostLemmas.{arc_variable, arc_variable_below, arc_price, way_price, same_pair, variable_swap, step_variable, step_from, step_differs, inside_head, sink_head}

-- sums of sums over a list are sums over the list
pub sums_over : {X : Type 0} (n : ℕ) (a : ℕ → ℤ) (f : ℕ → X → ℕ) (xs : List X) → sum_below n (λ j. a j *ℤ pos (sum_by (f j) xs)) ≡ sum_over (λ x. sum_below n (λ j. a j *ℤ pos (f j x))) xs
sums_over n a f [] = (λ i. sum_below n (λ j. *ℤ-zero (a j) i)) ∙ sum_below-zero n
sums_over {X} n a f (x ∷ xs) =
    (λ i. sum_below n (λ j. a j *ℤ pos (sum_by-cons (f j) x xs i)))
    ∙ ((λ i. sum_below n (λ j. mul_z-add (a j) (pos (f j x)) (pos (sum_by (f j) xs)) i))
    ∙ (sum_below-add n (λ j. a j *ℤ pos (f j x)) (λ j. a j *ℤ pos (sum_by (f j) xs))
    ∙ ap (λ (z : ℤ). sum_below n (λ j. a j *ℤ pos (f j x)) +ℤ z) (sums_over n a f xs)))

-- sums over items that are equal at each
pub over_each : {X : Type 0} (f h : X → ℤ) (xs : List X) → All (λ x. f x ≡ h x) xs → sum_over f xs ≡ sum_over h xs
over_each f h [] each = refl
over_each f h (x ∷ xs) each = λ i. each 0 x (omega arith) i +ℤ over_each f h xs (λ k d l. each (suc k) d (omega (arith, l))) i

by_each : {X : Type 0} (f h : X → ℕ) (xs : List X) → All (λ x. f x ≡ h x) xs → sum_by f xs ≡ sum_by h xs
by_each f h [] each = refl
by_each f h (x ∷ xs) each =
    let here = each 0 x (omega arith) in
    let rest = by_each f h xs (λ k d l. each (suc k) d (omega (arith, l))) in
    omega (arith, sum_by-cons f x xs, sum_by-cons h x xs, here, rest)

pub sum_mapped : {X Y : Type 0} (f : Y → ℕ) (g : X → Y) (xs : List X) → sum_by f (map g xs) ≡ sum_by (λ x. f (g x)) xs
sum_mapped f g [] = refl
sum_mapped f g (x ∷ xs) = let rest = sum_mapped f g xs in omega (arith, sum_by-cons f (g x) (map g xs), sum_by-cons (λ y. f (g y)) x xs, rest)

over_mapped : {X Y : Type 0} (f : Y → ℤ) (g : X → Y) (xs : List X) → sum_over f (map g xs) ≡ sum_over (λ x. f (g x)) xs
over_mapped f g [] = refl
over_mapped f g (x ∷ xs) = ap (λ (z : ℤ). f (g x) +ℤ z) (over_mapped f g xs)

doubled : {X : Type 0} (f : X → ℕ) (xs : List X) → sum_over (λ x. pos (2 * f x)) xs ≡ pos (2 * sum_by f xs)
doubled f [] = refl
doubled f (x ∷ xs) = let rest = doubled f xs in omega (arith, ints, rest, sum_by-cons f x xs)

pub count_items : {X : Type 0} (xs : List X) → sum_by (λ x. 1) xs ≡ length xs
count_items [] = refl
count_items (x ∷ xs) = let rest = count_items xs in omega (arith, sum_by-cons (λ y. 1) x xs, rest)

-- an arc maps its variable alone
mapped_is : (task : RouteTask) (a : ℕ) → a < length (arcs_of task) → mapped_vars (model_of task).maps 0 a ≡ arc_variable task a ∷ []
mapped_is task a l = get_or-map (mapped_of (customers task)) (arcs_of task) a _ [] l

alone : (b : Bool) → (b || false) ≡ b
alone true = refl
alone false = refl

pub mapped_test : (task : RouteTask) (j a : ℕ) → a < length (arcs_of task) → is_mapped (model_of task).maps j 0 a ≡ (arc_variable task a == j)
mapped_test task j a l = ap (list_any (λ i. i == j)) (mapped_is task a l) ∙ alone (arc_variable task a == j)

arc_picks : (task : RouteTask) (c : ℕ → ℤ) (n a : ℕ) → a < length (arcs_of task) → arc_variable task a < n → sum_below n (λ j. c j *ℤ pos (if is_mapped (model_of task).maps j 0 a then 1 else 0)) ≡ c (arc_variable task a)
arc_picks task c n a l below =
    (λ i. sum_below n (λ j. c j *ℤ pos (if mapped_test task j a l i then 1 else 0)))
    ∙ ((λ i. sum_below n (λ j. times_choice (arc_variable task a == j) (c j) i)) ∙ sum_below-pick c (arc_variable task a) n below)

-- which of a customer's pairs an arc between two places uses
abbrev pub hits : ℕ → ℕ → ℕ → ℤ
hits n v x = sum_below n (λ k. pos 1 *ℤ pos (if x == variable n v (other v k) then 1 else 0))

other_differs : (x j k : ℕ) → j ≢ k → other x j ≢ other x k
other_differs x j k apart = grind (arith, nat_tests)

hits_own : (n v w : ℕ) → v ≤ n → w ≤ n → v ≢ w → hits n v (variable n v w) ≡ pos 1
hits_own n v w p q differ =
    sum_below-same n (λ k. pos 1 *ℤ pos (if variable n v w == variable n v (other v k) then 1 else 0)) (λ k. if place == k then pos 1 else pos 0) each
    ∙ sum_below-pick (λ k. pos 1) place n small
  where
    place : ℕ
    place = if nat_lt w v then w else w - 1

    both : (other v place ≡ w) × (place < n)
    both = elim (cases_lt w v) [
      | inl less ↦
          let e : place ≡ w = grind (arith, nat_tests) in
          let o : other v place ≡ place = grind (arith, nat_tests) in
          (o ∙ e, omega (arith, e, less, p))
      | inr least ↦
          let e : place ≡ w - 1 = grind (arith, nat_tests) in
          let more : v ≤ place = omega (arith, e, least, differ) in
          let o : other v place ≡ place + 1 = grind (arith, nat_tests) in
          (o ∙ omega (arith, e, least, differ), omega (arith, e, least, differ, q))
    ]

    small : place < n
    small = both.1

    choice : (b d : Bool) → b ≡ d → pos 1 *ℤ pos (if b then 1 else 0) ≡ (if d then pos 1 else pos 0)
    choice b d e = times_choice b (pos 1) ∙ ap (λ c. if c then pos 1 else pos 0) e

    tests : (k : ℕ) → k < n → (variable n v w == variable n v (other v k)) ≡ (place == k)
    tests k l = elim (cases_eq place k) [
      | inl same ↦
          let at : variable n v w ≡ variable n v (other v k) = ap (variable n v) (sym both.0 ∙ ap (other v) same) in
          let t : (variable n v w == variable n v (other v k)) ≡ true = grind (arith, nat_tests) in
          let s : (place == k) ≡ true = grind (arith, nat_tests) in
          t ∙ sym s
      | inr apart ↦
          let there = other_place n v k p l in
          let unlike : other v place ≢ other v k = other_differs v place k apart in
          let at : variable n v w ≢ variable n v (other v k) = λ e.
          let pair = same_pair n v w v (other v k) p q differ p there.0 there.1 e in
          unlike (both.0 ∙ omega (arith, pair.0, pair.1)) in
          let t : (variable n v w == variable n v (other v k)) ≡ false = grind (arith, nat_tests) in
          let s : (place == k) ≡ false = grind (arith, nat_tests) in
          t ∙ sym s
    ]

    each : (k : ℕ) → k < n → pos 1 *ℤ pos (if variable n v w == variable n v (other v k) then 1 else 0) ≡ (if place == k then pos 1 else pos 0)
    each k l = choice (variable n v w == variable n v (other v k)) (place == k) (tests k l)

hits_none : (n v u w : ℕ) → v ≤ n → u ≤ n → w ≤ n → u ≢ w → u ≢ v → w ≢ v → hits n v (variable n u w) ≡ pos 0
hits_none n v u w p a b differ c d =
    sum_below-same n (λ k. pos 1 *ℤ pos (if variable n u w == variable n v (other v k) then 1 else 0)) (λ k. pos 0) each ∙ sum_below-zero n
  where
    each : (k : ℕ) → k < n → pos 1 *ℤ pos (if variable n u w == variable n v (other v k) then 1 else 0) ≡ pos 0
    each k l =
        let there = other_place n v k p l in
        let at : variable n u w ≢ variable n v (other v k) = λ e.
        let pair = same_pair n u w v (other v k) a b differ p there.0 there.1 e in
        omega (arith, pair.0, pair.1, c, d, differ) in
        let t : (variable n u w == variable n v (other v k)) ≡ false = grind (arith, nat_tests) in
        times_choice (variable n u w == variable n v (other v k)) (pos 1) ∙ ap (λ x. if x then pos 1 else pos 0) t

pub hits_are : (n v u w : ℕ) → v ≤ n → u ≤ n → w ≤ n → u ≢ w → hits n v (variable n u w) ≡ pos ((if u == v then 1 else 0) + (if w == v then 1 else 0))
hits_are n v u w p a b differ = elim (cases_eq u v) [
  | inl first ↦
      let s : (u == v) ≡ true = grind (arith, nat_tests) in
      let t : (w == v) ≡ false = grind (arith, nat_tests) in
      ap (λ k. hits n v (variable n k w)) first ∙ (hits_own n v w p b (λ e. differ (first ∙ e)) ∙ (λ i. pos ((if sym s i then 1 else 0) + (if sym t i then 1 else 0))))
  | inr not_first ↦ elim (cases_eq w v) [
    | inl second ↦
        let s : (u == v) ≡ false = grind (arith, nat_tests) in
        let t : (w == v) ≡ true = grind (arith, nat_tests) in
        ap (λ k. hits n v (variable n u k)) second ∙ (ap (hits n v) (variable_swap n u v not_first) ∙ (hits_own n v u p a (λ e. not_first (sym e)) ∙ (λ i. pos ((if sym s i then 1 else 0) + (if sym t i then 1 else 0)))))
    | inr neither ↦
        let s : (u == v) ≡ false = grind (arith, nat_tests) in
        let t : (w == v) ≡ false = grind (arith, nat_tests) in
        hits_none n v u w p a b differ not_first neither ∙ (λ i. pos ((if sym s i then 1 else 0) + (if sym t i then 1 else 0)))
  ]
]

-- the arcs of a way touch a customer twice for each time that the way goes through it
pub touches : RouteTask → ℕ → ℕ → ℤ
touches task v a = sum_below (customers task) (λ k. pos 1 *ℤ pos (if is_mapped (model_of task).maps (variable (customers task) v (other v k)) 0 a then 1 else 0))

step_touches : (task : RouteTask) (u a h w v : ℕ) → IsStep task u a h → or_depot (customers task) h ≡ w → v ≤ customers task → touches task v a ≡ pos ((if u == v then 1 else 0) + (if w == v then 1 else 0))
unfolding touches
step_touches task u a h w v s e l =
    let d = step_differs task u a h w s e in
    (λ i. sum_below (customers task) (λ k. pos 1 *ℤ pos (if mapped_test task (variable (customers task) v (other v k)) a s.there i then 1 else 0)))
    ∙ (ap (hits (customers task) v) (step_variable task u a h w s e) ∙ hits_are (customers task) v u w l (step_from task u a h s) d.0 d.1)

way_touches : (task : RouteTask) (u : ℕ) (arcs route : List ℕ) (v : ℕ) → 1 ≤ v → v ≤ customers task → IsWay task u arcs route → sum_over (touches task v) arcs ≡ pos ((if u == v then 1 else 0) + 2 * count_by (λ x. x == v) route)
way_touches task u [] route v some l way = absurd way
way_touches task u (a ∷ rest) [] v some l way =
    let one = step_touches task u a (customers task + 1) 0 v way.0 (sink_head (customers task)) l in
    let t : (0 == v) ≡ false = grind (arith, nat_tests) in
    let z : (if 0 == v then 1 else 0) ≡ 0 = ap (λ b. if b then 1 else 0) t in
    let nothing : sum_over (touches task v) rest ≡ pos 0 = ap (sum_over (touches task v)) way.1 in
    sums (touches task v a) (sum_over (touches task v) rest) (if u == v then 1 else 0) (if 0 == v then 1 else 0) one z nothing
  where
    sums : (x y : ℤ) (p q : ℕ) → x ≡ pos (p + q) → q ≡ 0 → y ≡ pos 0 → x +ℤ y ≡ pos (p + 2 * 0)
    sums x y p q e f g = omega (arith, ints, e, f, g)
way_touches task u (a ∷ rest) (w ∷ more) v some l way =
    let one = step_touches task u a w w v way.0 (inside_head (customers task) w way.1) l in
    let later = way_touches task w rest more v some l way.2 in
    let counted = sum_by-cons (λ x. if x == v then 1 else 0) w more in
    sums (touches task v a) (sum_over (touches task v) rest) (if u == v then 1 else 0) (if w == v then 1 else 0) (count_by (λ x. x == v) more) (count_by (λ x. x == v) (w ∷ more)) one later counted
  where
    sums : (x y : ℤ) (p q c d : ℕ) → x ≡ pos (p + q) → y ≡ pos (q + 2 * c) → d ≡ q + c → x +ℤ y ≡ pos (p + 2 * d)
    sums x y p q c d e f g = omega (arith, ints, e, f, g)

-- each path is taken once: it visits a customer, whose set is visited at most once
way_first : (task : RouteTask) (arcs route : List ℕ) → IsWay task 0 arcs route → (s : ℕ) × (s < customers task) × (1 ≤ visit_count s (visits_along (graph_of task) arcs))
way_first task [] route way = absurd way
way_first task (a ∷ rest) [] way =
    let both = (arc_is task a way.0.there).not_both way.0.tail in
    absurd (omega (arith, both, way.0.head))
way_first task (a ∷ rest) (w ∷ more) way =
    let some : 1 ≤ w = omega (arith, (arc_is task a way.0.there).some, way.0.head) in
    let set : visit_over (graph_of task) a ≡ Some (w - 1) =
    ap (λ k. (vertex_at (vertices_of task) k).set) way.0.head
    ∙ (ap (λ (x : Vertex). x.set) (vertex_is task w (omega (arith, way.1))) ∙ customer_set (customers task) w some way.1) in
    let counted = visit_count-cons (w - 1) (visit_over (graph_of task) a) (visits_along (graph_of task) rest) in
    let here : cond {A = ℕ} (is_visit (w - 1) (visit_over (graph_of task) a)) 1 0 ≡ 1 = ap (λ x. cond {A = ℕ} (is_visit (w - 1) x) 1 0) set ∙ own (w - 1) in
    (w - 1, omega (arith, some, way.1), omega (arith, counted, here))
  where
    customer_set : (n x : ℕ) → 1 ≤ x → x ≤ n → set_of n x ≡ Some (x - 1)
    customer_set n x some l = let t : (nat_lt 0 x && not (nat_lt n x)) ≡ true = grind (arith, nat_tests) in ap (λ b. if b then Some (x - 1) else None) t

    own : (k : ℕ) → cond {A = ℕ} (k == k) 1 0 ≡ 1
    own k = let t : (k == k) ≡ true = grind (arith, nat_tests) in ap (λ b. cond {A = ℕ} b 1 0) t

pub path_way : (task : RouteTask) (t : Taken) → IsTaskPath task t → IsWay task 0 t.arcs (visited task t.arcs)
path_way task t is = way_is task 0 t.arcs (omega arith) is.walk.walk

pub record IsOnce (task : RouteTask) (t : Taken) : Type 0 where
  pub graph : t.graph ≡ 0
  pub count : t.count ≡ 1
  pub way : IsWay task 0 t.arcs (visited task t.arcs)

pub each_once : (task : RouteTask) (plan : Plan) → IsSolution (model_of task) plan → All (IsOnce task) plan.paths
each_once task plan solution k d l = record { graph = path.graph; count = once; way = path_way task t path }
  where
    t : Taken
    t = get_or plan.paths k d

    path : IsTaskPath task t
    path = each_path task plan solution.paths k d l

    first : (s : ℕ) × (s < customers task) × (1 ≤ visit_count s (visits_along (graph_of task) t.arcs))
    first = way_first task t.arcs (visited task t.arcs) (path_way task t path)

    few : t.count * visits_in (model_of task).graphs first.0 t.graph t.arcs ≤ 1
    few =
        let all = solution.sets first.0 first.1 in
        let one = get_or-le-sum_by (λ (u : Taken). u.count * visits_in (model_of task).graphs first.0 u.graph u.arcs) plan.paths k d l in
        omega (arith, all, one)

    some : 1 ≤ visits_in (model_of task).graphs first.0 t.graph t.arcs
    some = subst (λ (g : ℕ). 1 ≤ visits_in (model_of task).graphs first.0 g t.arcs) (sym path.graph) first.2

    only : (c x : ℕ) → c * x ≤ 1 → 1 ≤ x → 1 ≤ c → c ≡ 1
    only c x p q r = let least : c ≤ c = omega arith in let wide : c * 1 ≤ c * x = mul-le-mul least q in omega (arith, p, r, wide)

    once : t.count ≡ 1
    once = only t.count (visits_in (model_of task).graphs first.0 t.graph t.arcs) few some path.count

-- quantities of a plan whose paths are each taken once
pub plain_quantity : (task : RouteTask) (f : ℕ → List ℕ → ℕ) (plan : Plan) → All (IsOnce task) plan.paths → quantity f plan ≡ sum_by (λ t. f 0 t.arcs) plan.paths
plain_quantity task f plan each =
    by_each (λ (t : Taken). t.count * f t.graph t.arcs) (λ (t : Taken). f 0 t.arcs) plan.paths (λ k d l.
    let is = each k d l in
    (λ i. is.count i * f (is.graph i) (get_or plan.paths k d).arcs) ∙ omega arith)

-- the sum of a customer's row is twice the number of its visits
pub row_at_is : (task : RouteTask) (v : ℕ) → 1 ≤ v → v ≤ customers task → row_at (model_of task).rows (v - 1) ≡ row_of (customers task) v
row_at_is task v some l = get_or-map-range_with_len (row_of (customers task)) 1 (customers task) (v - 1) v _ (omega (arith, some, l)) (omega (arith, some))

pub row_value : (task : RouteTask) (plan : Plan) (v : ℕ) → All (IsOnce task) plan.paths → 1 ≤ v → v ≤ customers task
    → row_sum (model_of task) plan (terms_of (customers task) v) ≡ pos (2 * sum_by (λ t. count_by (λ x. x == v) (visited task t.arcs)) plan.paths)
unfolding touches
row_value task plan v each some l =
    ap (λ n. sum_below n (λ k. (term_at (terms_of (customers task) v) k).coef *ℤ pos (value_of (model_of task) plan (term_at (terms_of (customers task) v) k).var))) (terms_size (customers task) v)
    ∙ (sum_below-same (customers task) (λ k. (term_at (terms_of (customers task) v) k).coef *ℤ pos (value_of (model_of task) plan (term_at (terms_of (customers task) v) k).var)) (λ k. pos 1 *ℤ pos (sum_by (λ (t : Taken). uses_in (model_of task).maps (spot k) 0 t.arcs) plan.paths)) values
    ∙ (sums_over (customers task) (λ k. pos 1) (λ k (t : Taken). uses_in (model_of task).maps (spot k) 0 t.arcs) plan.paths
    ∙ (over_each (λ (t : Taken). sum_below (customers task) (λ k. pos 1 *ℤ pos (uses_in (model_of task).maps (spot k) 0 t.arcs))) (λ (t : Taken). pos (2 * count_by (λ x. x == v) (visited task t.arcs))) plan.paths paths
    ∙ doubled (λ (t : Taken). count_by (λ x. x == v) (visited task t.arcs)) plan.paths)))
  where
    spot : ℕ → ℕ
    spot k = variable (customers task) v (other v k)

    term : (k : ℕ) → RowTerm → ℤ
    term k t = t.coef *ℤ pos (value_of (model_of task) plan t.var)

    values : (k : ℕ) → k < customers task → (term_at (terms_of (customers task) v) k).coef *ℤ pos (value_of (model_of task) plan (term_at (terms_of (customers task) v) k).var) ≡ pos 1 *ℤ pos (sum_by (λ (t : Taken). uses_in (model_of task).maps (spot k) 0 t.arcs) plan.paths)
    values k below =
        ap (λ (t : RowTerm). t.coef *ℤ pos (value_of (model_of task) plan t.var)) (term_is (customers task) v k _ below)
        ∙ ap (λ n. pos 1 *ℤ pos n) (plain_quantity task (uses_in (model_of task).maps (spot k)) plan each)

    paths : All (λ (t : Taken). sum_below (customers task) (λ k. pos 1 *ℤ pos (uses_in (model_of task).maps (spot k) 0 t.arcs)) ≡ pos (2 * count_by (λ x. x == v) (visited task t.arcs))) plan.paths
    paths k d below =
        let t : Taken = get_or plan.paths k d in
        let is = each k d below in
        let apart : (0 == v) ≡ false = grind (arith, nat_tests) in
        sums_over (customers task) (λ j. pos 1) (λ j a. if is_mapped (model_of task).maps (spot j) 0 a then 1 else 0) t.arcs
        ∙ (way_touches task 0 t.arcs (visited task t.arcs) v some l is.way
        ∙ (λ i. pos ((if apart i then 1 else 0) + 2 * count_by (λ x. x == v) (visited task t.arcs))) ∙ omega (arith, ints))

-- the cost of a plan is that of its ways
pub plan_price : (task : RouteTask) (plan : Plan) → All (IsOnce task) plan.paths → cost_of (model_of task) plan ≡ route_cost task (routes_in task plan)
plan_price task plan each =
    sum_below-same (length (vars_of task)) (λ j. price j *ℤ pos (value_of (model_of task) plan j)) (λ j. price j *ℤ pos (sum_by (λ (t : Taken). uses_in (model_of task).maps j 0 t.arcs) plan.paths))
    (λ j below. ap (λ n. price j *ℤ pos n) (plain_quantity task (uses_in (model_of task).maps j) plan each))
    ∙ (sums_over (length (vars_of task)) price (λ j (t : Taken). uses_in (model_of task).maps j 0 t.arcs) plan.paths
    ∙ (over_each (λ (t : Taken). sum_below (length (vars_of task)) (λ j. price j *ℤ pos (uses_in (model_of task).maps j 0 t.arcs))) (λ (t : Taken). way_of task 0 (visited task t.arcs)) plan.paths paths
    ∙ sym (over_mapped (way_of task 0) (λ (t : Taken). visited task t.arcs) plan.paths)))
  where
    price : ℕ → ℤ
    price j = (var_at (vars_of task) j).cost

    arcs_price : (u : ℕ) (arcs route : List ℕ) → IsWay task u arcs route → sum_over (λ a. sum_below (length (vars_of task)) (λ j. price j *ℤ pos (if is_mapped (model_of task).maps j 0 a then 1 else 0))) arcs ≡ sum_over (arc_price task) arcs
    arcs_price u [] route way = refl
    arcs_price u (a ∷ rest) [] way =
        (λ i. arc_picks task price (length (vars_of task)) a way.0.there (arc_variable_below task a way.0.there) i +ℤ sum_over (λ b. sum_below (length (vars_of task)) (λ j. price j *ℤ pos (if is_mapped (model_of task).maps j 0 b then 1 else 0))) (way.1 i))
        ∙ ap (λ xs. arc_price task a +ℤ sum_over (arc_price task) xs) (sym way.1)
    arcs_price u (a ∷ rest) (v ∷ more) way = λ i. arc_picks task price (length (vars_of task)) a way.0.there (arc_variable_below task a way.0.there) i +ℤ arcs_price v rest more way.2 i

    paths : All (λ (t : Taken). sum_below (length (vars_of task)) (λ j. price j *ℤ pos (uses_in (model_of task).maps j 0 t.arcs)) ≡ way_of task 0 (visited task t.arcs)) plan.paths
    paths k d below =
        let t : Taken = get_or plan.paths k d in
        let is = each k d below in
        sums_over (length (vars_of task)) price (λ j a. if is_mapped (model_of task).maps j 0 a then 1 else 0) t.arcs
        ∙ (arcs_price 0 t.arcs (visited task t.arcs) is.way ∙ way_price task 0 t.arcs (visited task t.arcs) is.way)

-- the routes of a solution
pub plan_routes : (task : RouteTask) (plan : Plan) → TaskFits task → IsSolution (model_of task) plan → IsRoutePlan task (routes_in task plan)
plan_routes task plan fits solution = record { few = few; each = each; once = once }
  where
    are : All (IsOnce task) plan.paths
    are = each_once task plan solution

    few : length (routes_in task plan) ≤ task.vehicles
    few =
        let most = (solution.counts 0 (omega arith)).1 in
        let count = plain_quantity task (is_of 0) plan are in
        omega (arith, most, count, count_items plan.paths, length-map plan.paths (λ (t : Taken). visited task t.arcs))

    each : All (IsRoute task) (routes_in task plan)
    each = All-map (IsRoute task) (λ (t : Taken). visited task t.arcs) plan.paths (λ k d l.
        let path = each_path task plan solution.paths k d l in
        walk_route task (get_or plan.paths k d).arcs fits path.walk)

    once : (v : ℕ) → IsCustomer task v → sum_by (count_by (λ u. u == v)) (routes_in task plan) ≡ 1
    once v is =
        let holds = solution.rows (v - 1) (omega (arith, rows_size (customers task), is.0, is.1)) in
        let here = subst (λ (row : Row). IsBetween row.low row.high (row_sum (model_of task) plan row.terms)) (row_at_is task v is.0 is.1) holds in
        let value = row_value task plan v are is.0 is.1 in
        let mapped = sum_mapped (count_by (λ u. u == v)) (λ (t : Taken). visited task t.arcs) plan.paths in
        omega (arith, ints, here.0, here.1, value, mapped)

pub numbered_plan : (task : RouteTask) (plan : Plan) (numbers : List (List ℕ)) → TaskFits task → IsSolution (model_of task) plan → numbers ≡ numbers_of task (routes_in task plan) → IsNumberedPlan task (cost_of (model_of task) plan) numbers
numbered_plan task plan numbers fits solution same = record {
  routes = routes_in task plan;
  same = same;
  plan = plan_routes task plan fits solution;
  equal_cost = sym (plan_price task plan (each_once task plan solution));
}
