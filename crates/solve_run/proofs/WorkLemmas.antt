-- What is left to do of a search falls at every round.
use Rattle.std.proofs.Common.{◌≡◌, ℕ, suc, ◌+◌, ◌*◌, ◌-◌, ◌<◌, ◌≤◌, ℤ, pos, negsuc, ◌-ℤ◌, ◌≤ℤ◌, ◌<ℤ◌, unsigned_abs, Bool, true, false, Option, None, Some, length, mul-le-mul_right, refl, ap, arith}
use Rattle.std.proofs.lemmas.Int.{clamps, ints}
use Rattle.path_graph.proofs.SumLemmas.{sum_below-≤}
use Rattle.route_model.specs.declared.plan.Plan.{Plan}
use Rattle.route_model.specs.Costs.{cost_above_all, greatest_var_cost, least_box_cost, least_var_cost}
use Rattle.route_model.specs.Fit.{ModelFits}
use Rattle.route_model.specs.Parts.{ModelParts, var_at}
use Rattle.route_model.proofs.SolutionLemmas.{cost_between}
use Rattle.made_nodes.specs.Better.{IsBetter}
use Rattle.search_tree.specs.declared.search.Search.{Search}
use Rattle.search_tree.specs.Search.{made_in}
use Rattle.solve_run.specs.Work.{to_test, work_left}

-- the cost to beat is no less than the least cost over the boxes
least_above : (m : ModelParts) → least_box_cost m ≤ℤ cost_above_all m
least_above m =
    let each = sum_below-≤ (length m.vars) (λ j. least_var_cost (var_at m.vars j)) (λ j. greatest_var_cost (var_at m.vars j)) (λ j l. omega (arith, ints, clamps)) in
    omega (arith, ints, each)

pub least_below : (m : ModelParts) (best : Option Plan) (z : ℤ) → ModelFits m → IsBetter m (cost_above_all m) best z → least_box_cost m ≤ℤ z
least_below m None z fits better = omega (arith, ints, least_above m, better)
least_below m (Some plan) z fits better = omega (arith, ints, (cost_between m plan fits better.0).0, better.2)

-- a first digit that falls outweighs a second one that is no more than n
digits_less : (a b n x y : ℕ) → a < b → x ≤ n → a * suc n + x < b * suc n + y
digits_less a b n x y less few =
    let e : suc a * suc n ≤ b * suc n = mul-le-mul_right (suc n) less in
    omega (arith, e, few)

second_less : (a b n x y : ℕ) → a ≤ b → x < y → a * n + x < b * n + y
second_less a b n x y most less =
    let e : a * n ≤ b * n = mul-le-mul_right n most in
    omega (arith, e, less)

abs_of : (x : ℤ) → pos 0 ≤ℤ x → pos (unsigned_abs x) ≡ x
abs_of (pos n) some = refl
abs_of (negsuc n) some = absurd (omega (arith, ints, some))

gap_less : (least a b : ℤ) → least ≤ℤ a → a <ℤ b → unsigned_abs (a -ℤ least) < unsigned_abs (b -ℤ least)
gap_less least a b low less =
    let first = abs_of (a -ℤ least) (omega (arith, ints)) in
    let second = abs_of (b -ℤ least) (omega (arith, ints)) in
    omega (arith, ints, first, second)

test_few : (b : Bool) → to_test b ≤ 1
test_few true = omega arith
test_few false = omega arith

test_less : (a b : Bool) → (b ≡ true → a ≡ true) → to_test a ≤ to_test b
test_less true b keeps = omega arith
test_less false false keeps = omega arith
test_less false true keeps = cc (keeps refl)

-- a lower cost to beat leaves less, whatever else changed
pub work_cheaper : (m : ModelParts) (n : ℕ) (old new : Search) → least_box_cost m ≤ℤ new.z → new.z <ℤ old.z → work_left m n new < work_left m n old
work_cheaper m n old new low less =
    let least = least_box_cost m in
    let gap = gap_less least new.z old.z low less in
    let few = test_few new.is_tested in
    digits_less (2 * unsigned_abs (new.z -ℤ least) + to_test new.is_tested) (2 * unsigned_abs (old.z -ℤ least) + to_test old.is_tested) n (n - made_in new) (n - made_in old)
    (omega (arith, gap, few)) (omega arith)

-- so do tested nodes, and more nodes that are made
pub work_tested : (m : ModelParts) (n : ℕ) (old new : Search) → new.z ≡ old.z → old.is_tested ≡ false → new.is_tested ≡ true → work_left m n new < work_left m n old
work_tested m n old new same before after =
    let least = least_box_cost m in
    let gap = ap (λ (z : ℤ). unsigned_abs (z -ℤ least)) same in
    let one = ap to_test before in
    let none = ap to_test after in
    digits_less (2 * unsigned_abs (new.z -ℤ least) + to_test new.is_tested) (2 * unsigned_abs (old.z -ℤ least) + to_test old.is_tested) n (n - made_in new) (n - made_in old)
    (omega (arith, gap, one, none)) (omega arith)

pub work_more : (m : ModelParts) (n : ℕ) (old new : Search) → new.z ≡ old.z → (old.is_tested ≡ true → new.is_tested ≡ true) → made_in old < made_in new → made_in new ≤ n → work_left m n new < work_left m n old
work_more m n old new same keeps more few =
    let least = least_box_cost m in
    let gap = ap (λ (z : ℤ). unsigned_abs (z -ℤ least)) same in
    let test = test_less new.is_tested old.is_tested keeps in
    second_less (2 * unsigned_abs (new.z -ℤ least) + to_test new.is_tested) (2 * unsigned_abs (old.z -ℤ least) + to_test old.is_tested) (suc n) (n - made_in new) (n - made_in old)
    (omega (arith, gap, test)) (omega (arith, more, few))
