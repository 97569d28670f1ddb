-- Lemmas on solutions: what keeps one, and what none costs.
use Rattle.std.proofs.Common.{zero, suc, negsuc, mul-le-mul_left, mul-add, mul-zero, cond, nat_lt, take, [], ◌∷◌, ◌≡◌, ℕ, ◌+◌, ◌*◌, ◌≤◌, ◌<◌, List, length, arith, sym, ◌∙◌, ap, subst, refl, ℤ, pos, ◌*ℤ◌, ◌≤ℤ◌, ◌<ℤ◌}
use Rattle.std.proofs.lemmas.Int.{ints, clamps}
use Rattle.std.specs.Prelude.{sum_by}
use Rattle.std.proofs.lemmas.Bool.Decides.{nat_tests}
use Rattle.std.proofs.lemmas.List.{take_all}
use Rattle.std.proofs.lemmas.List.Sums.{sum_by-cons, sum_by_more, get_or-le-sum_by}
use Rattle.path_graph.specs.Walk.{GraphParts, IsFeasibleWalk}
use Rattle.path_graph.proofs.SumLemmas.{sum_below-same, sum_below-≤}
use Rattle.std.specs.Int.{int_min, int_max}
use Rattle.route_model.specs.declared.parts.Var.{Var}
use Rattle.route_model.specs.declared.plan.Taken.{Taken}
use Rattle.route_model.specs.declared.plan.Plan.{Plan}
use Rattle.path_graph.specs.First.{EachBelow}
use Rattle.route_model.specs.Verdicts.{IsCounted}
use Rattle.route_model.specs.Fit.{VarFits, ModelFits}
use Rattle.route_model.specs.Parts.{ModelParts, graph_at, graph_in, taken_at, plan_with, var_at, row_at, term_at}
use Rattle.route_model.specs.Quantities.{quantity, paths_of, value_of, visits_in, uses_in, is_of, cost_of, row_sum}
use Rattle.route_model.specs.Solution.{IsPath, ArePaths, IsSolution, IsLeast, IsBetween}
use Rattle.route_model.specs.Costs.{least_box_cost, cost_above_all, least_var_cost, greatest_var_cost}
use Rattle.route_model.specs.Tidy.{KeepsQuantities, AllComeFrom, Covers}

-- plans of equal quantities cost the same
pub cost_of-kept : (m : ModelParts) (old new : Plan) → KeepsQuantities old new → cost_of m new ≡ cost_of m old
cost_of-kept m old new same =
    sum_below-same (length m.vars) (λ j. (var_at m.vars j).cost *ℤ pos (value_of m new j)) (λ j. (var_at m.vars j).cost *ℤ pos (value_of m old j))
    (λ j below. ap (λ (n : ℕ). (var_at m.vars j).cost *ℤ pos n) (same (uses_in m.maps j)))

path_kept : (m : ModelParts) (t u : Taken) → Covers t u → IsPath m t → IsPath m u
path_kept m t u covers path =
    record {
      graph = subst (λ (g : ℕ). g < length m.graphs) (sym covers.graph) path.graph;
      count = omega (arith, covers.count, path.count);
      walk = subst (λ (g : ℕ). IsFeasibleWalk (graph_at m g) u.arcs) (sym covers.graph) (subst (λ (arcs : List ℕ). IsFeasibleWalk (graph_at m t.graph) arcs) (sym covers.arcs) path.walk);
    }

-- a plan of paths with the quantities of a solution is a solution
pub solution_kept_of : (m : ModelParts) (old new : Plan) → KeepsQuantities old new → ArePaths m new → IsSolution m old → IsSolution m new
solution_kept_of m old new same paths solution =
    record {
      paths = paths;
      counts = λ g below. let is = same (is_of g) in let fits = solution.counts g below in (omega (arith, is, fits.0), omega (arith, is, fits.1));
      sets = λ s below. let is = same (visits_in m.graphs s) in let fits = solution.sets s below in omega (arith, is, fits);
      vars = λ j below. let is = ap pos (same (uses_in m.maps j)) in let fits = solution.vars j below in (omega (arith, ints, is, fits.0), omega (arith, ints, is, fits.1));
      rows = λ i below. subst (λ (z : ℤ). IsBetween (row_at m.rows i).low (row_at m.rows i).high z) (sym (row_kept i)) (solution.rows i below);
    }
  where
    row_kept : (i : ℕ) → row_sum m new (row_at m.rows i).terms ≡ row_sum m old (row_at m.rows i).terms
    row_kept i =
        let terms = (row_at m.rows i).terms in
        sum_below-same (length terms) (λ k. (term_at terms k).coef *ℤ pos (value_of m new (term_at terms k).var)) (λ k. (term_at terms k).coef *ℤ pos (value_of m old (term_at terms k).var))
        (λ k below. ap (λ (n : ℕ). (term_at terms k).coef *ℤ pos n) (same (uses_in m.maps (term_at terms k).var)))

-- the same, where its paths come from the solution
pub solution_kept : (m : ModelParts) (old new : Plan) → KeepsQuantities old new → AllComeFrom old new → IsSolution m old → IsSolution m new
solution_kept m old new same walks solution =
    solution_kept_of m old new same (λ k below. let from = walks k below in path_kept m (taken_at old.paths from.0) (taken_at new.paths k) from.2 (solution.paths from.0 from.1)) solution

pub least_kept : (m : ModelParts) (old new : Plan) → KeepsQuantities old new → AllComeFrom old new → IsLeast m old → IsLeast m new
least_kept m old new same walks best =
    record {
      solution = solution_kept m old new same walks best.solution;
      least = λ other solves. subst (λ (z : ℤ). z ≤ℤ cost_of m other) (sym (cost_of-kept m old new same)) (best.least other solves);
    }

-- a cost times a number between two lies between the costs at both
pub between_ends : (c : ℤ) (l v h : ℕ) → l ≤ v → v ≤ h → (int_min (c *ℤ pos l) (c *ℤ pos h) ≤ℤ (c *ℤ pos v)) × ((c *ℤ pos v) ≤ℤ int_max (c *ℤ pos l) (c *ℤ pos h))
between_ends (pos c) l v h low high =
    let left : c * l ≤ c * v = mul-le-mul_left c low in
    let right : c * v ≤ c * h = mul-le-mul_left c high in
    (omega (arith, ints, clamps, left, right), omega (arith, ints, clamps, left, right))
between_ends (negsuc c) l v h low high =
    let left : suc c * l ≤ suc c * v = mul-le-mul_left (suc c) low in
    let right : suc c * v ≤ suc c * h = mul-le-mul_left (suc c) high in
    (omega (arith, ints, clamps, left, right), omega (arith, ints, clamps, left, right))

var_between : (v : Var) (n : ℕ) → VarFits v → (v.low ≤ℤ pos n) × (pos n ≤ℤ v.high) → (least_var_cost v ≤ℤ (v.cost *ℤ pos n)) × ((v.cost *ℤ pos n) ≤ℤ greatest_var_cost v)
var_between v n fits box = ends v.low v.high fits.low box.0 box.1
  where
    ends : (low high : ℤ) → pos 0 ≤ℤ low → low ≤ℤ pos n → pos n ≤ℤ high → (int_min (v.cost *ℤ low) (v.cost *ℤ high) ≤ℤ (v.cost *ℤ pos n)) × ((v.cost *ℤ pos n) ≤ℤ int_max (v.cost *ℤ low) (v.cost *ℤ high))
    ends (pos l) (pos h) some a b = between_ends v.cost l n h (omega (arith, ints, a)) (omega (arith, ints, b))
    ends (negsuc l) high some a b = absurd (omega (arith, ints, some))
    ends (pos l) (negsuc h) some a b = absurd (omega (arith, ints, b))

-- what a solution costs lies within the costs over the box
pub cost_between : (m : ModelParts) (plan : Plan) → ModelFits m → IsSolution m plan → (least_box_cost m ≤ℤ cost_of m plan) × (cost_of m plan <ℤ cost_above_all m)
cost_between m plan fits solution =
    let cost : ℕ → ℤ = λ j. (var_at m.vars j).cost *ℤ pos (value_of m plan j) in
    let each = λ (j : ℕ) (below : j < length m.vars). var_between (var_at m.vars j) (value_of m plan j) (fits.vars.each j _ below) (solution.vars j below) in
    let least = sum_below-≤ (length m.vars) (λ j. least_var_cost (var_at m.vars j)) cost (λ j below. (each j below).0) in
    let greatest = sum_below-≤ (length m.vars) cost (λ j. greatest_var_cost (var_at m.vars j)) (λ j below. (each j below).1) in
    (least, omega (arith, ints, greatest))

-- how many paths of graphs below n there are
abbrev below_of : ℕ → ℕ → List ℕ → ℕ
below_of n g arcs = cond (nat_lt g n) 1 0

abbrev any_of : ℕ → List ℕ → ℕ
any_of g arcs = 1

one_more : (g n : ℕ) (arcs : List ℕ) → below_of (n + 1) g arcs ≡ below_of n g arcs + is_of n g arcs
one_more g n arcs = grind (arith, nat_tests)

below_more : (n : ℕ) (paths : List Taken) → quantity (below_of (n + 1)) (plan_with paths) ≡ quantity (below_of n) (plan_with paths) + paths_of (plan_with paths) n
below_more n [] = refl
below_more n (t ∷ plan) =
    let new = sum_by-cons (λ (s : Taken). s.count * below_of (n + 1) s.graph s.arcs) t plan in
    let old = sum_by-cons (λ (s : Taken). s.count * below_of n s.graph s.arcs) t plan in
    let here = sum_by-cons (λ (s : Taken). s.count * is_of n s.graph s.arcs) t plan in
    let split : t.count * below_of (n + 1) t.graph t.arcs ≡ t.count * below_of n t.graph t.arcs + t.count * is_of n t.graph t.arcs = ap (λ (k : ℕ). t.count * k) (one_more t.graph n t.arcs) ∙ mul-add t.count (below_of n t.graph t.arcs) (is_of n t.graph t.arcs) in
    omega (arith, new, old, here, split, below_more n plan)

below_none : (paths : List Taken) → quantity (below_of 0) (plan_with paths) ≡ 0
below_none [] = refl
below_none (t ∷ plan) =
    let step = sum_by-cons (λ (s : Taken). s.count * below_of 0 s.graph s.arcs) t plan in
    let zero_of : below_of 0 t.graph t.arcs ≡ 0 = grind (arith, nat_tests) in
    let here : t.count * below_of 0 t.graph t.arcs ≡ 0 = ap (λ (k : ℕ). t.count * k) zero_of ∙ mul-zero t.count in
    omega (arith, step, here, below_none plan)

below_all : (n : ℕ) (paths : List Taken) → EachBelow (length paths) (λ i. (taken_at paths i).graph < n) → quantity (below_of n) (plan_with paths) ≡ quantity any_of (plan_with paths)
below_all n [] h = refl
below_all n (t ∷ plan) h =
    let step = sum_by-cons (λ (s : Taken). s.count * below_of n s.graph s.arcs) t plan in
    let any = sum_by-cons (λ (s : Taken). s.count * any_of s.graph s.arcs) t plan in
    let first : t.graph < n = h 0 (omega arith) in
    let one_of : below_of n t.graph t.arcs ≡ 1 = grind (arith, nat_tests) in
    let here : t.count * below_of n t.graph t.arcs ≡ t.count * 1 = ap (λ (k : ℕ). t.count * k) one_of in
    omega (arith, step, any, here, below_all n plan (λ k l. h (suc k) (omega arith)))

few_below : (graphs : List GraphParts) (plan : Plan) (n : ℕ) → n ≤ length graphs → EachBelow (length graphs) (λ g. paths_of plan g ≤ (graph_in graphs g).ends.high) → quantity (below_of n) plan ≤ sum_by (λ g. g.ends.high) (take n graphs)
few_below graphs plan zero l h = omega (arith, below_none plan.paths)
few_below graphs plan (suc n) l h =
    let before = few_below graphs plan n (omega arith) h in
    let more = sum_by_more (λ (g : GraphParts). g.ends.high) graphs n (graph_in [] 0) (omega arith) in
    let count = below_more n plan.paths in
    let high = h n (omega arith) in
    let e : suc n ≡ n + 1 = omega arith in
    subst (λ (k : ℕ). quantity (below_of k) plan ≤ sum_by (λ g. g.ends.high) (take k graphs)) (sym e) (omega (arith, before, more, count, high))

-- where no graph has too many paths, there are no more than the bounds of all graphs allow
pub paths_few : (graphs : List GraphParts) (plan : Plan) → EachBelow (length plan.paths) (λ i. (taken_at plan.paths i).graph < length graphs) → EachBelow (length graphs) (λ g. paths_of plan g ≤ (graph_in graphs g).ends.high) → quantity (λ g arcs. 1) plan ≤ sum_by (λ g. g.ends.high) graphs
paths_few graphs plan inside h =
    let few = few_below graphs plan (length graphs) (omega arith) h in
    let all = below_all (length graphs) plan.paths inside in
    let whole = ap (λ (gs : List GraphParts). sum_by (λ g. g.ends.high) gs) (take_all (length graphs) graphs (omega arith)) in
    omega (arith, few, all, whole)

short_plan : (paths : List Taken) → EachBelow (length paths) (λ i. 1 ≤ (taken_at paths i).count) → length paths ≤ quantity any_of (plan_with paths)
short_plan [] h = omega arith
short_plan (t ∷ plan) h =
    let any = sum_by-cons (λ (s : Taken). s.count * any_of s.graph s.arcs) t plan in
    let first : 1 ≤ t.count = h 0 (omega arith) in
    omega (arith, any, first, short_plan plan (λ k l. h (suc k) (omega arith)))

-- a solution of a model can be judged
pub solution_counted : (m : ModelParts) (plan : Plan) → ModelFits m → IsSolution m plan → IsCounted plan
solution_counted m plan fits solution =
    let few = paths_few m.graphs plan (λ i l. (solution.paths i l).graph) (λ g l. (solution.counts g l).1) in
    let short = short_plan plan.paths (λ i l. (solution.paths i l).count) in
    let most = fits.graphs.few_paths in
    record {
      few = omega (arith, few, short, most);
      each = λ k d l. let one = get_or-le-sum_by (λ (t : Taken). t.count * any_of t.graph t.arcs) plan.paths k d l in omega (arith, few, one, most);
    }
