-- What arcs of the model of a task cost, and which of them touch a customer.
use Rattle.std.proofs.Common.{◌≡◌, ◌≢◌, ℕ, ◌+◌, ◌<◌, ◌≤◌, min, max, ℤ, pos, ◌-ℤ◌, unsigned_abs, List, [], ◌∷◌, length, get_or, true, false, sym, ◌∙◌, ap, subst, arith, nat_lt, inl, inr}
use Rattle.std.specs.Prelude.{if◌then◌else◌, ◌⊎◌}
use Rattle.std.proofs.lemmas.Int.{ints}
use Rattle.std.proofs.lemmas.Bool.{cases_lt}
use Rattle.std.proofs.lemmas.Bool.Decides.{nat_tests}
use Rattle.path_graph.specs.Sums.{sum_over}
use Rattle.path_graph.specs.Walk.{arc_at}
use Rattle.route_model.specs.declared.parts.Var.{Var}
use Rattle.route_model.specs.Parts.{var_at}
use Rattle.route_tasks.specs.declared.task.Stop.{Stop}
use Rattle.route_tasks.specs.declared.task.Style.{Style}
use Rattle.route_tasks.specs.declared.task.RouteTask.{RouteTask}
use Rattle.route_tasks.specs.Distance.{squared_gap, root_of, distance_of}
use Rattle.route_tasks.specs.Places.{customers, place_at, distance_at, over_pairs, pair_number, variable, or_depot}
use Rattle.route_tasks.specs.ModelOf.{arcs_of, var_of, vars_of}
use Rattle.route_tasks.specs.Routes.{way_of}
use Rattle.route_tasks.proofs.PairLemmas.{pair_at, pairs_size, variable_below}
use Rattle.route_tasks.proofs.ArcLemmas.{arc_is}
use Rattle.route_tasks.proofs.ModelLemmas.{head_place}
use Rattle.route_tasks.proofs.WayLemmas.{IsStep, IsWay}

-- distances are the same both ways
abs_swap : (x y : ℤ) → unsigned_abs (x -ℤ y) ≡ unsigned_abs (y -ℤ x)
abs_swap x y = omega (arith, ints)

distance_swap : (style : Style) (a b : Stop) → distance_of style a b ≡ distance_of style b a
distance_swap style a b = λ i. root_of style (squared_gap (abs_swap a.x b.x i) (abs_swap a.y b.y i))

-- the variable of two places is that of the lower and the higher
pub variable_is : (n u w : ℕ) → u ≢ w → variable n u w ≡ pair_number n (min u w) (max u w)
variable_is n u w differ = elim (cases_lt u w) [
  | inl less ↦
      let t : nat_lt u w ≡ true = grind (arith, nat_tests) in
      let low : u ≡ min u w = omega (arith, less) in
      let high : w ≡ max u w = omega (arith, less) in
      ap (λ b. if b then pair_number n u w else pair_number n w u) t ∙ (λ i. pair_number n (low i) (high i))
  | inr least ↦
      let t : nat_lt u w ≡ false = grind (arith, nat_tests) in
      let low : w ≡ min u w = omega (arith, least) in
      let high : u ≡ max u w = omega (arith, least) in
      ap (λ b. if b then pair_number n u w else pair_number n w u) t ∙ (λ i. pair_number n (low i) (high i))
]

-- a variable has one pair
low_is : (n u w : ℕ) → u ≤ n → w ≤ n → u ≢ w → get_or (over_pairs n (λ low high. low)) (variable n u w) 0 ≡ min u w
low_is n u w p q differ = ap (λ k. get_or (over_pairs n (λ low high. low)) k 0) (variable_is n u w differ) ∙ pair_at n (min u w) (max u w) (λ low high. low) 0 (omega (arith, differ)) (omega (arith, p, q))

high_is : (n u w : ℕ) → u ≤ n → w ≤ n → u ≢ w → get_or (over_pairs n (λ low high. high)) (variable n u w) 0 ≡ max u w
high_is n u w p q differ = ap (λ k. get_or (over_pairs n (λ low high. high)) k 0) (variable_is n u w differ) ∙ pair_at n (min u w) (max u w) (λ low high. high) 0 (omega (arith, differ)) (omega (arith, p, q))

pub same_pair : (n u w v x : ℕ) → u ≤ n → w ≤ n → u ≢ w → v ≤ n → x ≤ n → v ≢ x → variable n u w ≡ variable n v x → (min u w ≡ min v x) × (max u w ≡ max v x)
same_pair n u w v x a b c d e f same = (
  sym (low_is n u w a b c) ∙ (ap (λ k. get_or (over_pairs n (λ low high. low)) k 0) same ∙ low_is n v x d e f),
  sym (high_is n u w a b c) ∙ (ap (λ k. get_or (over_pairs n (λ low high. high)) k 0) same ∙ high_is n v x d e f),
)

pub variable_swap : (n u w : ℕ) → u ≢ w → variable n u w ≡ variable n w u
variable_swap n u w differ =
    let low : min u w ≡ min w u = omega arith in
    let high : max u w ≡ max w u = omega arith in
    variable_is n u w differ ∙ ((λ i. pair_number n (low i) (high i)) ∙ sym (variable_is n w u (λ e. differ (sym e))))

-- the variable of an arc, and what it costs
abbrev pub arc_variable : RouteTask → ℕ → ℕ
arc_variable task a = variable (customers task) (arc_at (arcs_of task) a).tail (or_depot (customers task) (arc_at (arcs_of task) a).head)

pub arc_variable_below : (task : RouteTask) (a : ℕ) → a < length (arcs_of task) → arc_variable task a < length (vars_of task)
arc_variable_below task a l =
    let is = arc_is task a l in
    let there = head_place (customers task) (arc_at (arcs_of task) a).tail (arc_at (arcs_of task) a).head is.from is.some is.differ is.not_both in
    let below = variable_below (customers task) (arc_at (arcs_of task) a).tail (or_depot (customers task) (arc_at (arcs_of task) a).head) is.from there.0 there.1 in
    omega (arith, below, pairs_size (customers task) (var_of task))

pair_cost : (task : RouteTask) (u w : ℕ) → u ≤ customers task → w ≤ customers task → u ≢ w → (var_at (vars_of task) (variable (customers task) u w)).cost ≡ pos (distance_at task u w)
pair_cost task u w p q differ =
    ap (λ k. (var_at (vars_of task) k).cost) (variable_is (customers task) u w differ)
    ∙ (ap (λ (x : Var). x.cost) (pair_at (customers task) (min u w) (max u w) (var_of task) _ (omega (arith, differ)) (omega (arith, p, q)))
    ∙ either (cases_lt u w))
  where
    either : (u < w) ⊎ (w ≤ u) → pos (distance_at task (min u w) (max u w)) ≡ pos (distance_at task u w)
    either (inl less) =
        let low : min u w ≡ u = omega (arith, less) in
        let high : max u w ≡ w = omega (arith, less) in
        λ i. pos (distance_at task (low i) (high i))
    either (inr least) =
        let low : min u w ≡ w = omega (arith, least) in
        let high : max u w ≡ u = omega (arith, least) in
        (λ i. pos (distance_at task (low i) (high i))) ∙ ap pos (distance_swap task.style (place_at task w) (place_at task u))

pub inside_head : (n v : ℕ) → v ≤ n → or_depot n v ≡ v
inside_head n v l = let t : nat_lt n v ≡ false = grind (arith, nat_tests) in ap (λ b. if b then 0 else v) t

pub sink_head : (n : ℕ) → or_depot n (n + 1) ≡ 0
sink_head n = let t : nat_lt n (n + 1) ≡ true = grind (arith, nat_tests) in ap (λ b. if b then 0 else n + 1) t

abbrev pub arc_price : RouteTask → ℕ → ℤ
arc_price task a = (var_at (vars_of task) (arc_variable task a)).cost

pub step_variable : (task : RouteTask) (u a v w : ℕ) → IsStep task u a v → or_depot (customers task) v ≡ w → arc_variable task a ≡ variable (customers task) u w
step_variable task u a v w s e = (λ i. variable (customers task) (s.tail i) (or_depot (customers task) (s.head i))) ∙ ap (variable (customers task) u) e

pub step_from : (task : RouteTask) (u a v : ℕ) → IsStep task u a v → u ≤ customers task
step_from task u a v s = omega (arith, (arc_is task a s.there).from, s.tail)

pub step_differs : (task : RouteTask) (u a v w : ℕ) → IsStep task u a v → or_depot (customers task) v ≡ w → (w ≤ customers task) × (u ≢ w)
step_differs task u a v w s e =
    let is = arc_is task a s.there in
    let there = head_place (customers task) (arc_at (arcs_of task) a).tail (arc_at (arcs_of task) a).head is.from is.some is.differ is.not_both in
    let here : or_depot (customers task) (arc_at (arcs_of task) a).head ≡ w = ap (or_depot (customers task)) s.head ∙ e in
    (subst (λ (k : ℕ). k ≤ customers task) here there.0, λ same. there.1 (s.tail ∙ (same ∙ sym here)))

pub way_price : (task : RouteTask) (u : ℕ) (arcs route : List ℕ) → IsWay task u arcs route → sum_over (arc_price task) arcs ≡ way_of task u route
way_price task u [] route way = absurd way
way_price task u (a ∷ rest) [] way =
    let e = sink_head (customers task) in
    let d = step_differs task u a (customers task + 1) 0 way.0 e in
    let one : arc_price task a ≡ pos (distance_at task u 0) = ap (λ k. (var_at (vars_of task) k).cost) (step_variable task u a (customers task + 1) 0 way.0 e) ∙ pair_cost task u 0 (step_from task u a (customers task + 1) way.0) (omega arith) d.1 in
    let nothing : sum_over (arc_price task) rest ≡ pos 0 = ap (sum_over (arc_price task)) way.1 in
    omega (arith, ints, one, nothing)
way_price task u (a ∷ rest) (v ∷ more) way =
    let e = inside_head (customers task) v way.1 in
    let d = step_differs task u a v v way.0 e in
    let one : arc_price task a ≡ pos (distance_at task u v) = ap (λ k. (var_at (vars_of task) k).cost) (step_variable task u a v v way.0 e) ∙ pair_cost task u v (step_from task u a v way.0) way.1 d.1 in
    let later = way_price task v rest more way.2 in
    omega (arith, ints, one, later)
