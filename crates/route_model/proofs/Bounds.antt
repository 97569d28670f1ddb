-- Bounds on values, terms and costs.
use Rattle.std.proofs.Common.{take, ◌+ℤ◌, FitsSigned, w64, to_z, of_z, negsuc, ◌≡◌, ℕ, ◌+◌, ◌≤◌, ◌<◌, List, length, arith, sym, ℤ, pos, ◌*ℤ◌, ◌≤ℤ◌, unsigned_abs}
use Rattle.std.proofs.lemmas.Int.{ints, clamps}
use Rattle.std.proofs.lemmas.List.Sums.{sum_by_more}
use Rattle.route_model.specs.declared.parts.Var.{Var}
use Rattle.route_model.specs.Costs.{least_var_cost, greatest_var_cost}
use Rattle.route_model.specs.Fit.{VarFits, cost_range_of, cost_range}
use Rattle.route_model.specs.Parts.{ModelParts, var_at}
use Rattle.route_model.specs.Quantities.{value_of}
use Rattle.route_model.specs.Solution.{InBox}
use Rattle.path_graph.specs.Within.{IsWithin}
use Rattle.path_graph.proofs.SumLemmas.{abs_within, product_within, IsSumWithin, signed_loop_step}
use Rattle.route_model.specs.declared.plan.Plan.{Plan}

-- a variable in its box is small
pub small_value : (m : ModelParts) (plan : Plan) (j : ℕ) → VarFits (var_at m.vars j) → InBox m plan j → value_of m plan j ≤ 1000000
small_value m plan j fits box = omega (arith, ints, fits.high, box.1)

-- what a variable in its box costs is within its part of the cost range
pub var_cost_within : (v : Var) (n : ℕ) → VarFits v → (pos n) ≤ℤ v.high → IsWithin (cost_range_of v) (v.cost *ℤ pos n)
var_cost_within v n fits below =
    let value : IsWithin (unsigned_abs v.high) (pos n) = (omega (arith, ints), top v.high below) in
    product_within (unsigned_abs v.cost) (unsigned_abs v.high) v.cost (pos n) (abs_within (unsigned_abs v.cost) v.cost (omega arith)) value
  where
    top : (high : ℤ) → (pos n) ≤ℤ high → (pos n) ≤ℤ (pos (unsigned_abs high))
    top (pos k) h = h
    top (negsuc k) h = omega (arith, ints)

-- the costs of a variable at the ends of its box, and so the least and the greatest, are within its part of the range
end_within : (v : Var) (x : ℤ) → VarFits v → (pos 0) ≤ℤ x → x ≤ℤ v.high → IsWithin (cost_range_of v) (v.cost *ℤ x)
end_within v (pos n) fits low high = var_cost_within v n fits high
end_within v (negsuc n) fits low high = absurd (omega (arith, ints, low))

pub least_var_cost_within : (v : Var) → VarFits v → IsWithin (cost_range_of v) (least_var_cost v)
least_var_cost_within v fits =
    let at_low = end_within v v.low fits fits.low fits.sides in
    let at_high = end_within v v.high fits (omega (arith, ints, fits.low, fits.sides)) (omega (arith, ints)) in
    (omega (arith, ints, clamps, at_low.0, at_high.0), omega (arith, ints, clamps, at_low.1, at_high.1))

pub greatest_var_cost_within : (v : Var) → VarFits v → IsWithin (cost_range_of v) (greatest_var_cost v)
greatest_var_cost_within v fits =
    let at_low = end_within v v.low fits fits.low fits.sides in
    let at_high = end_within v v.high fits (omega (arith, ints, fits.low, fits.sides)) (omega (arith, ints)) in
    (omega (arith, ints, clamps, at_low.0, at_high.0), omega (arith, ints, clamps, at_low.1, at_high.1))

-- a step of a sum of costs over the variables, as a loop asks for it
pub cost_step : (vars : List Var) (f : ℕ → ℤ) (j : ℕ) (total r next : ℤ) → j < length vars → IsSumWithin j f (cost_range (take j vars)) total → FitsSigned w64 r → FitsSigned w64 next → r ≡ f j → IsWithin (cost_range_of (var_at vars j)) r → next ≡ total +ℤ to_z w64 (of_z w64 r) → IsSumWithin (j + 1) f (cost_range (take (j + 1) vars)) (to_z w64 (of_z w64 next))
cost_step vars f j total r next below h fr fn e small s =
    let more = sum_by_more cost_range_of vars j (record { low = pos 0; high = pos 0; cost = pos 0 }) below in
    signed_loop_step w64 j f _ (cost_range_of (var_at vars j)) (cost_range (take (j + 1) vars)) total r next h fr fn e small (sym more) s
