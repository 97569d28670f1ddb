-- The bound of a place, and the limit of a walk.
use Rattle.std.proofs.Common.{◌≡◌, ◌≢◌, ℕ, zero, suc, ◌*◌, ◌<◌, ◌≤◌, ℤ, pos, ◌+ℤ◌, ◌-ℤ◌, ◌*ℤ◌, ◌≤ℤ◌, ◌<ℤ◌, Bool, true, false, ◌&&◌, ◌||◌, ◌==◌, Option, None, Some, List, [], ◌∷◌, length, All, refl, sym, ◌∙◌, ap, subst, inl, inr, arith}
use Rattle.std.specs.Prelude.{if◌then◌else◌, not}
use Rattle.std.proofs.lemmas.Int.{by_lt_z, ints, clamps}
use Rattle.std.proofs.lemmas.Bool.{cases_lt}
use Rattle.std.proofs.lemmas.Bool.Decides.{nat_tests}
use Rattle.std.proofs.lemmas.List.Sums.{sum_by-cons}
use lib.IntN.{zero-*ℤ}
use Rattle.path_graph.specs.Bounds.{IsAtLeast, IsAtMost}
use Rattle.path_graph.specs.First.{EachBelow, IsFirstFault}
use Rattle.path_graph.specs.Sums.{sum_below}
use Rattle.path_graph.proofs.IntLemmas.{pos_mul-≤, times_choice, times_less, times_more, add_le, put_back}
use Rattle.path_graph.proofs.SumLemmas.{sum_below-but, sum_below-pick, sum_below-take, sum_below-≤}
use Rattle.rank1_cuts.specs.declared.cut.Cut.{Cut}
use Rattle.rank1_cuts.specs.Fit.{CutFits}
use Rattle.route_model.specs.declared.multipliers.Mult.{Mult}
use Rattle.route_model.specs.declared.multipliers.Priced.{Priced}
use Rattle.route_model.specs.declared.places.Boxes.{Boxes}
use Rattle.route_model.specs.declared.places.Span.{Span}
use Rattle.route_model.specs.declared.plan.Plan.{Plan}
use Rattle.route_model.specs.declared.plan.Taken.{Taken}
use Rattle.route_model.specs.Fit.{ModelFits}
use Rattle.route_model.specs.Parts.{ModelParts, plan_with, taken_at}
use Rattle.route_model.specs.Places.{IsInSpan, SolvesWithin, ends_at_zero, span_at}
use Rattle.route_model.specs.Quantities.{cost_of, is_of, paths_of}
use Rattle.route_model.specs.Terms.{or_zero}
use Rattle.route_model.proofs.ShutLemmas.{not_zero, paths_some}
use Rattle.multipliers.specs.Quantities.{AreDefined, base, plan_sum, reduced_cost, scaled}
use Rattle.multipliers.proofs.DualityLemmas.{below_quantity, term_in, weak_duality}
use Rattle.multipliers.proofs.PlanSumLemmas.{plan_sum-add, plan_sum-same, plan_sum-≤}
use Rattle.safe_bound.specs.declared.bounds.Bound.{Bound}
use Rattle.safe_bound.specs.declared.bounds.Bound.TheVariants.{Value, NoPaths}
use Rattle.safe_bound.specs.Promise.{BoundHolds, LimitHolds}
use Rattle.safe_bound.specs.Bounds.{AreLeasts, IsBound, all_above, are_possible_but, bound_of, graph_term, is_none, is_possible, least_at, limit_of, others, passes_below, terms_but}

-- a test that passes at each number
pub passes_each : (n : ℕ) (test : ℕ → Bool) → EachBelow n (λ k. test k ≡ true) → passes_below n test ≡ true
passes_each zero test each = refl
passes_each (suc n) test each =
    λ i. passes_each n test (λ k l. each k (omega arith)) i && each n (omega arith) i

-- a graph that no path goes by has no path
paths_none : (g : ℕ) (paths : List Taken) → EachBelow (length paths) (λ i. (taken_at paths i).graph ≢ g) → paths_of (plan_with paths) g ≡ 0
paths_none g [] apart = refl
paths_none g (t ∷ paths) apart =
    let step = sum_by-cons (λ (s : Taken). s.count * is_of g s.graph s.arcs) t paths in
    let other : t.graph ≢ g = apart 0 (omega arith) in
    let zero_of : is_of g t.graph t.arcs ≡ 0 = grind (arith, nat_tests) in
    let here = ap (λ (k : ℕ). t.count * k) zero_of in
    omega (arith, step, here, paths_none g paths (λ k l. apart (suc k) (omega arith)))

-- the number of paths of a graph with a least, and of one without
graph_term-≤ : (least : Option ℤ) (span : Span) (x : ℤ) → IsInSpan span x → graph_term least span ≤ℤ (or_zero least *ℤ x)
graph_term-≤ None span x inside = omega (arith, ints, zero-*ℤ x)
graph_term-≤ (Some l) span x inside = term_in l x span inside

possible_with : (least : Option ℤ) (span : Span) (n : ℕ) → IsInSpan span (pos n) → (least ≡ None → n ≡ 0) → is_possible least span ≡ true
possible_with None span n inside none =
    let zero_of = none refl in
    let low : span.low ≤ℤ pos 0 = omega (arith, ints, inside.0) in
    grind (arith, ints)
possible_with (Some l) span n inside none = refl

from_value : (least : Option ℤ) (x : ℤ) → IsAtLeast least x → or_zero least ≤ℤ x
from_value None x from = absurd from
from_value (Some l) x from = from

not_none : (least : Option ℤ) (x : ℤ) → IsAtLeast least x → least ≢ None
not_none None x from none = from
not_none (Some l) x from none = cc

none_of : (leasts : List (Option ℤ)) (f : ℕ → List ℕ → ℤ) (g : ℕ) (plan : Plan) → EachBelow (length plan.paths) (λ i. IsAtLeast (least_at leasts (taken_at plan.paths i).graph) (f (taken_at plan.paths i).graph (taken_at plan.paths i).arcs))
    → least_at leasts g ≡ None → paths_of plan g ≡ 0
none_of leasts f g plan from none =
    paths_none g plan.paths (λ i l same. not_none (least_at leasts (taken_at plan.paths i).graph) (f (taken_at plan.paths i).graph (taken_at plan.paths i).arcs) (from i l) (ap (least_at leasts) same ∙ none))

-- the paths of all graphs at their leasts
plan_sum-least : (a : ℕ → ℤ) (n : ℕ) (plan : Plan) → EachBelow (length plan.paths) (λ i. (taken_at plan.paths i).graph < n) → plan_sum (λ g arcs. a g) plan ≡ sum_below n (λ g. a g *ℤ pos (paths_of plan g))
plan_sum-least a n plan inside =
    plan_sum-same (λ g arcs. a g) (λ h arcs. sum_below n (λ g. a g *ℤ pos (is_of g h arcs))) plan
    (λ i l. sym ((λ k. sum_below n (λ g. times_choice ((taken_at plan.paths i).graph == g) (a g) k)) ∙ sum_below-pick a (taken_at plan.paths i).graph n (inside i l)))
    ∙ sym (below_quantity a is_of n plan)

-- where nothing is below 0, neither is the plan, and a path is at most the plan
times_some : (n : ℕ) (x : ℤ) → pos 0 ≤ℤ x → pos 0 ≤ℤ (pos n *ℤ x)
times_some n x h = let times = pos_mul-≤ n (pos 0) x h in omega (arith, ints, times)

sum_some : (f : ℕ → List ℕ → ℤ) (paths : List Taken) → EachBelow (length paths) (λ k. pos 0 ≤ℤ f (taken_at paths k).graph (taken_at paths k).arcs) → pos 0 ≤ℤ plan_sum f (plan_with paths)
sum_some f [] some = omega (arith, ints)
sum_some f (t ∷ paths) some =
    add_le (pos 0) (pos t.count *ℤ f t.graph t.arcs) (pos 0) (plan_sum f (plan_with paths))
    (times_some t.count (f t.graph t.arcs) (some 0 (omega arith))) (sum_some f paths (λ k l. some (suc k) (omega arith)))

sum_one : (f : ℕ → List ℕ → ℤ) (paths : List Taken) (i : ℕ) → EachBelow (length paths) (λ k. pos 0 ≤ℤ f (taken_at paths k).graph (taken_at paths k).arcs) → i < length paths → 1 ≤ (taken_at paths i).count
    → f (taken_at paths i).graph (taken_at paths i).arcs ≤ℤ plan_sum f (plan_with paths)
sum_one f [] i some below counted = absurd (omega arith)
sum_one f (t ∷ paths) zero some below counted =
    first (f t.graph t.arcs) (pos t.count *ℤ f t.graph t.arcs) (plan_sum f (plan_with paths))
    (times_more t.count (f t.graph t.arcs) counted (some 0 (omega arith))) (sum_some f paths (λ k l. some (suc k) (omega arith)))
  where
    first : (x y s : ℤ) → x ≤ℤ y → pos 0 ≤ℤ s → x ≤ℤ (y +ℤ s)
    first x y s a b = omega (arith, ints)
sum_one f (t ∷ paths) (suc i) some below counted =
    later (f (taken_at paths i).graph (taken_at paths i).arcs) (pos t.count *ℤ f t.graph t.arcs) (plan_sum f (plan_with paths))
    (sum_one f paths i (λ k l. some (suc k) (omega arith)) (omega arith) counted) (times_some t.count (f t.graph t.arcs) (some 0 (omega arith)))
  where
    later : (x y s : ℤ) → x ≤ℤ s → pos 0 ≤ℤ y → x ≤ℤ (y +ℤ s)
    later x y s a b = omega (arith, ints)

-- no graph shows that a place with a solution has none
all_possible : (m : ModelParts) (boxes : Boxes) (leasts : List (Option ℤ)) (plan : Plan) (f : ℕ → List ℕ → ℤ) → SolvesWithin m boxes plan
    → EachBelow (length plan.paths) (λ i. IsAtLeast (least_at leasts (taken_at plan.paths i).graph) (f (taken_at plan.paths i).graph (taken_at plan.paths i).arcs))
    → EachBelow (length m.graphs) (λ g. is_possible (least_at leasts g) (span_at boxes.paths g) ≡ true)
all_possible m boxes leasts plan f s from g below =
    possible_with (least_at leasts g) (span_at boxes.paths g) (paths_of plan g) (s.paths g below) (none_of leasts f g plan from)

pub solution_possible : (m : ModelParts) (cuts : List Cut) (boxes : Boxes) (mult : Mult) (leasts : List (Option ℤ)) (plan : Plan) → SolvesWithin m boxes plan → AreLeasts m cuts mult leasts plan
    → EachBelow (length m.graphs) (λ g. is_possible (least_at leasts g) (span_at boxes.paths g) ≡ true)
solution_possible m cuts boxes mult leasts plan s from = all_possible m boxes leasts plan (reduced_cost m cuts mult) s from

-- the bound is at most the scaled cost of each solution of the place
bound_sum : (m : ModelParts) (cuts : List Cut) (boxes : Boxes) (mult : Mult) (leasts : List (Option ℤ)) (plan : Plan)
    → ModelFits m → All CutFits cuts → SolvesWithin m boxes plan → AreDefined m cuts boxes mult → AreLeasts m cuts mult leasts plan
    → (base m cuts boxes mult +ℤ sum_below (length m.graphs) (λ g. graph_term (least_at leasts g) (span_at boxes.paths g))) ≤ℤ scaled (cost_of m plan)
bound_sum m cuts boxes mult leasts plan fits cut_fits s defined from =
    let count : ℕ = length m.graphs in
    let least : ℕ → ℤ = λ g. or_zero (least_at leasts g) in
    let terms = sum_below-≤ count (λ g. graph_term (least_at leasts g) (span_at boxes.paths g)) (λ g. least g *ℤ pos (paths_of plan g))
    (λ g l. graph_term-≤ (least_at leasts g) (span_at boxes.paths g) (pos (paths_of plan g)) (s.paths g l)) in
    let same = plan_sum-least least count plan (λ i l. (s.solution.paths i l).graph) in
    let above = plan_sum-≤ (λ g arcs. least g) (reduced_cost m cuts mult) plan (λ i l. from_value (least_at leasts (taken_at plan.paths i).graph) _ (from i l)) in
    let dual = weak_duality m cuts boxes mult plan fits cut_fits s defined in
    joined (base m cuts boxes mult) _ _ (plan_sum (λ g arcs. least g) plan) (plan_sum (reduced_cost m cuts mult) plan) (scaled (cost_of m plan)) terms same above dual
  where
    joined : (b t n l r c : ℤ) → t ≤ℤ n → l ≡ n → l ≤ℤ r → (b +ℤ r) ≤ℤ c → (b +ℤ t) ≤ℤ c
    joined b t n l r c h e k d = omega (arith, ints)

pub bound_holds : (m : ModelParts) (cuts : List Cut) (boxes : Boxes) (mult : Mult) (leasts : List (Option ℤ)) (plan : Plan)
    → ModelFits m → All CutFits cuts → SolvesWithin m boxes plan → AreDefined m cuts boxes mult → AreLeasts m cuts mult leasts plan
    → IsAtLeast (bound_of (length m.graphs) boxes.paths leasts (base m cuts boxes mult)) (scaled (cost_of m plan))
bound_holds m cuts boxes mult leasts plan fits cut_fits s defined from =
    let go = passes_each (length m.graphs) (λ g. is_possible (least_at leasts g) (span_at boxes.paths g)) (solution_possible m cuts boxes mult leasts plan s from) in
    rw go (bound_sum m cuts boxes mult leasts plan fits cut_fits s defined from)

-- what code tells of the bound
apart_from : (g n : ℕ) (b : Bool) → g < n → ((g == n) || b) ≡ true → b ≡ true
apart_from g n b below e = let no : (g == n) ≡ false = grind (arith, nat_tests) in ap (λ (t : Bool). t || b) (sym no) ∙ e

or_true : (a b : Bool) → b ≡ true → (a || b) ≡ true
or_true true b e = refl
or_true false b e = e

pub bound_made : (n : ℕ) (spans : List Span) (leasts : List (Option ℤ)) (base b : ℤ) → EachBelow n (λ g. ((g == n) || is_possible (least_at leasts g) (span_at spans g)) ≡ true)
    → b ≡ base +ℤ terms_but n spans leasts n → bound_of n spans leasts base ≡ Some b
bound_made n spans leasts base b each is =
    let go = passes_each n (λ g. is_possible (least_at leasts g) (span_at spans g)) (λ g l. apart_from g n (is_possible (least_at leasts g) (span_at spans g)) l (each g l)) in
    let same : terms_but n spans leasts n ≡ sum_below n (λ g. graph_term (least_at leasts g) (span_at spans g)) = sum_below-but (λ g. graph_term (least_at leasts g) (span_at spans g)) n n (omega arith) in
    let value : b ≡ base +ℤ sum_below n (λ g. graph_term (least_at leasts g) (span_at spans g)) = is ∙ ap (λ (x : ℤ). base +ℤ x) same in
    rw go (ap (λ (x : ℤ). Some x) (sym value))

pub first_made : (n : ℕ) (spans : List Span) (leasts : List (Option ℤ)) (g : ℕ) → IsFirstFault n (λ h. ((h == n) || is_possible (least_at leasts h) (span_at spans h)) ≡ true) g
    → IsFirstFault n (λ h. is_possible (least_at leasts h) (span_at spans h) ≡ true) g
first_made n spans leasts g first = record {
  within = first.within;
  fails = λ e. first.fails (or_true (g == n) (is_possible (least_at leasts g) (span_at spans g)) e);
  before = λ k l. apart_from k n (is_possible (least_at leasts k) (span_at spans k)) (omega (arith, l, first.within)) (first.before k l);
}

pub bound_told : (priced : Priced) (boxes : Boxes) (leasts : List (Option ℤ)) (bound : Bound) → IsBound boxes.paths leasts priced.base bound → BoundHolds priced boxes leasts bound
bound_told priced boxes leasts (Value b) is m cuts mult plan fits cut_fits count are solves from =
    let holds = bound_holds m cuts boxes mult leasts plan fits cut_fits solves are.defined from in
    let same : bound_of (length m.graphs) boxes.paths leasts (base m cuts boxes mult) ≡ Some b = (λ i. bound_of (sym count i) boxes.paths leasts (sym are.base i)) ∙ is in
    subst (λ (o : Option ℤ). IsAtLeast o (scaled (cost_of m plan))) same holds
bound_told priced boxes leasts (NoPaths g) is m cuts mult plan fits cut_fits count are solves from =
    is.fails (solution_possible m cuts boxes mult leasts plan solves from g (omega (arith, is.within, count)))

-- a path and, at their leasts, the other paths
walk_and_leasts : (f : ℕ → List ℕ → ℤ) (a : ℕ → ℤ) (n : ℕ) (plan : Plan) (i : ℕ) → EachBelow (length plan.paths) (λ k. a (taken_at plan.paths k).graph ≤ℤ f (taken_at plan.paths k).graph (taken_at plan.paths k).arcs)
    → EachBelow (length plan.paths) (λ k. (taken_at plan.paths k).graph < n) → i < length plan.paths → 1 ≤ (taken_at plan.paths i).count
    → (f (taken_at plan.paths i).graph (taken_at plan.paths i).arcs +ℤ sum_below n (λ g. a g *ℤ pos (paths_of plan g))) ≤ℤ (plan_sum f plan +ℤ a (taken_at plan.paths i).graph)
walk_and_leasts f a n plan i above inside below counted =
    let over : ℕ → List ℕ → ℤ = λ g arcs. f g arcs -ℤ a g in
    let split : plan_sum f plan ≡ plan_sum (λ g arcs. a g) plan +ℤ plan_sum over plan = (λ j. plan_sum (λ g arcs. put_back (a g) (f g arcs) j) plan) ∙ plan_sum-add (λ g arcs. a g) over plan in
    let one = sum_one over plan.paths i (λ k b. not_below (a (taken_at plan.paths k).graph) (f (taken_at plan.paths k).graph (taken_at plan.paths k).arcs) (above k b)) below counted in
    joined (f (taken_at plan.paths i).graph (taken_at plan.paths i).arcs) (a (taken_at plan.paths i).graph) _ (plan_sum (λ g arcs. a g) plan) (plan_sum over plan) (plan_sum f plan) (plan_sum-least a n plan inside) split one
  where
    not_below : (x y : ℤ) → x ≤ℤ y → pos 0 ≤ℤ (y -ℤ x)
    not_below x y h = omega (arith, ints)

    joined : (x l n s o f : ℤ) → s ≡ n → f ≡ s +ℤ o → (x -ℤ l) ≤ℤ o → (x +ℤ n) ≤ℤ (f +ℤ l)
    joined x l n s o f e k h = omega (arith, ints)

-- the terms of the other graphs, and of the other paths of graph g
but_one : (b : Bool) (x y : ℤ) → x ≤ℤ y → (if b then pos 0 else x) ≤ℤ (if b then pos 0 else y)
but_one true x y h = omega (arith, ints)
but_one false x y h = h

others_in : (span : Span) (n : ℕ) → IsInSpan span (pos n) → 1 ≤ n → IsInSpan (others span) (pos n -ℤ pos 1)
others_in span n inside some = (omega (arith, ints, clamps, inside.0), omega (arith, ints, inside.1))

terms_beside : (leasts : List (Option ℤ)) (spans : List Span) (paths : ℕ → ℕ) (n g : ℕ) → EachBelow n (λ h. IsInSpan (span_at spans h) (pos (paths h))) → g < n → 1 ≤ paths g
    → ((graph_term (least_at leasts g) (others (span_at spans g)) +ℤ terms_but n spans leasts g) +ℤ or_zero (least_at leasts g)) ≤ℤ sum_below n (λ h. or_zero (least_at leasts h) *ℤ pos (paths h))
terms_beside leasts spans paths n g inside below some =
    let paid : ℕ → ℤ = λ h. or_zero (least_at leasts h) *ℤ pos (paths h) in
    let terms : ℕ → ℤ = λ h. graph_term (least_at leasts h) (span_at spans h) in
    let l : ℤ = or_zero (least_at leasts g) in
    let here = graph_term-≤ (least_at leasts g) (others (span_at spans g)) (pos (paths g) -ℤ pos 1) (others_in (span_at spans g) (paths g) (inside g below) some) in
    let there = sum_below-≤ n (λ h. if h == g then pos 0 else terms h) (λ h. if h == g then pos 0 else paid h)
    (λ h b. but_one (h == g) (terms h) (paid h) (graph_term-≤ (least_at leasts h) (span_at spans h) (pos (paths h)) (inside h b))) in
    joined _ _ l (l *ℤ (pos (paths g) -ℤ pos 1)) (paid g) _ _ here there (times_less l (pos (paths g))) (sum_below-take paid g n below)
  where
    joined : (r o l less paid rest sum : ℤ) → r ≤ℤ less → o ≤ℤ rest → less +ℤ l ≡ paid → sum ≡ paid +ℤ rest → ((r +ℤ o) +ℤ l) ≤ℤ sum
    joined r o l less paid rest sum h k e f = omega (arith, ints)

-- graph g, of which a solution that costs less than z has a walk, is in none of the three cases
some_none : (least : Option ℤ) (x : ℤ) → IsAtLeast least x → is_none least ≡ false
some_none None x from = absurd from
some_none (Some l) x from = refl

not_above : (m : ModelParts) (cuts : List Cut) (boxes : Boxes) (mult : Mult) (leasts : List (Option ℤ)) (plan : Plan) (i : ℕ) → SolvesWithin m boxes plan → AreLeasts m cuts mult leasts plan → i < length plan.paths
    → all_above (length m.graphs) boxes.paths leasts (taken_at plan.paths i).graph ≡ false
not_above m cuts boxes mult leasts plan i s from below =
    let g : ℕ = (taken_at plan.paths i).graph in
    let path = s.solution.paths i below in
    let go : are_possible_but (length m.graphs) boxes.paths leasts g ≡ true =
    passes_each (length m.graphs) _ (λ h b. or_true (h == g) _ (solution_possible m cuts boxes mult leasts plan s from h b)) in
    let none = some_none (least_at leasts g) _ (from i below) in
    let some = not_zero (span_at boxes.paths g) (paths_of plan g) (s.paths g path.graph) (paths_some plan i below path.count) in
    λ e. not (go e) || (none e || some e)

-- no walk of a solution that costs less than z has a reduced cost above the limit of its graph
pub limit_holds : (m : ModelParts) (cuts : List Cut) (boxes : Boxes) (mult : Mult) (leasts : List (Option ℤ)) (plan : Plan) (z : ℤ)
    → ModelFits m → All CutFits cuts → SolvesWithin m boxes plan → AreDefined m cuts boxes mult → AreLeasts m cuts mult leasts plan → cost_of m plan <ℤ z
    → EachBelow (length plan.paths) (λ i. IsAtMost (limit_of (length m.graphs) boxes.paths leasts (base m cuts boxes mult) (taken_at plan.paths i).graph z) (reduced_cost m cuts mult (taken_at plan.paths i).graph (taken_at plan.paths i).arcs))
limit_holds m cuts boxes mult leasts plan z fits cut_fits s defined from cheap i below =
    let g : ℕ = (taken_at plan.paths i).graph in
    let count : ℕ = length m.graphs in
    let cost : ℕ → List ℕ → ℤ = reduced_cost m cuts mult in
    let x : ℤ = cost g (taken_at plan.paths i).arcs in
    let least : ℕ → ℤ = λ h. or_zero (least_at leasts h) in
    let path = s.solution.paths i below in
    let some : 1 ≤ paths_of plan g = paths_some plan i below path.count in
    let dual = weak_duality m cuts boxes mult plan fits cut_fits s defined in
    let under = pos_mul-≤ 65536 (cost_of m plan) (z -ℤ pos 1) (omega (arith, ints)) in
    let walk = walk_and_leasts cost least count plan i (λ k b. from_value (least_at leasts (taken_at plan.paths k).graph) (cost (taken_at plan.paths k).graph (taken_at plan.paths k).arcs) (from k b)) (λ k b. (s.solution.paths k b).graph) below path.count in
    rw (not_above m cuts boxes mult leasts plan i s from below)
    (joined x (base m cuts boxes mult) (plan_sum cost plan) (scaled (cost_of m plan)) (scaled (z -ℤ pos 1)) (sum_below count (λ h. least h *ℤ pos (paths_of plan h))) _ _ (least g)
    dual under walk (terms_beside leasts boxes.paths (paths_of plan) count g s.paths path.graph some))
  where
    joined : (x b f c z n r o least : ℤ) → (b +ℤ f) ≤ℤ c → c ≤ℤ z → (x +ℤ n) ≤ℤ (f +ℤ least) → ((r +ℤ o) +ℤ least) ≤ℤ n → x ≤ℤ (z -ℤ b -ℤ o -ℤ r)
    joined x b f c z n r o least h k w t = omega (arith, ints)

pub limit_told : (priced : Priced) (boxes : Boxes) (leasts : List (Option ℤ)) (g : ℕ) (z : ℤ) (limit : Option ℤ) → limit ≡ limit_of (length boxes.paths) boxes.paths leasts priced.base g z → LimitHolds priced boxes leasts g z limit
limit_told priced boxes leasts g z limit is m cuts mult plan i fits cut_fits count are solves from cheap below of_g =
    let holds = limit_holds m cuts boxes mult leasts plan z fits cut_fits solves are.defined from cheap i below in
    let same : limit_of (length m.graphs) boxes.paths leasts (base m cuts boxes mult) (taken_at plan.paths i).graph z ≡ limit = (λ k. limit_of (sym count k) boxes.paths leasts (sym are.base k) (of_g k) z) ∙ sym is in
    subst (λ (h : ℕ). IsAtMost limit (reduced_cost m cuts mult h (taken_at plan.paths i).arcs)) of_g
    (subst (λ (o : Option ℤ). IsAtMost o (reduced_cost m cuts mult (taken_at plan.paths i).graph (taken_at plan.paths i).arcs)) same holds)

-- the limit as code makes it
pub passes_fails : (n : ℕ) (test : ℕ → Bool) (k : ℕ) → k < n → (test k ≡ true → ⊥) → passes_below n test ≡ false
passes_fails zero test k below fails = absurd (omega (arith, below))
passes_fails (suc n) test k below fails = elim (cases_lt k n) [
  | inl less ↦ ap (λ (b : Bool). b && test n) (passes_fails n test k less fails)
  | inr least ↦ let same : k ≡ n = omega arith in last (passes_below n test) (test n) (subst (λ (i : ℕ). test i ≡ true → ⊥) same fails)
]
  where
    last : (a b : Bool) → (b ≡ true → ⊥) → (a && b) ≡ false
    last a true h = absurd (h refl)
    last true false h = refl
    last false false h = refl

-- where some walk may be within the limit, there may be a path
pub some_paths : (p none : Bool) (span : Span) → (not p || (none || ends_at_zero span)) ≡ false → pos 1 ≤ℤ span.high
some_paths true false span e = grind (arith, ints, e)
some_paths true true span e = absurd (let h : true ≡ false = e in cc)
some_paths false none span e = absurd (let h : true ≡ false = e in cc)

-- what closes leaves no plan below z
pub scaled_apart : (z cost bound : ℤ) → scaled (z -ℤ pos 1) <ℤ bound → bound ≤ℤ scaled cost → z ≤ℤ cost
scaled_apart z cost bound above under =
    by_lt_z cost z
    (λ below.
    let less = pos_mul-≤ 65536 cost (z -ℤ pos 1) (omega (arith, ints, below)) in
    absurd (omega (arith, ints, above, under, less)))
    (λ h. h)
