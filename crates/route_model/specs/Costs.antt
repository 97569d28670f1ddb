-- The costs over the box of the variables.
use Rattle.std.specs.Prelude.{ℤ, pos, ◌+ℤ◌, ◌*ℤ◌, length}
use Rattle.std.specs.Int.{int_min, int_max}
use Rattle.path_graph.specs.Sums.{sum_below}
use Rattle.route_model.specs.declared.parts.Var.{Var}
use Rattle.route_model.specs.Parts.{ModelParts, var_at}

-- the least and the greatest cost of a variable over its box: each lies at an end
abbrev pub least_var_cost : Var → ℤ
least_var_cost v = int_min (v.cost *ℤ v.low) (v.cost *ℤ v.high)

abbrev pub greatest_var_cost : Var → ℤ
greatest_var_cost v = int_max (v.cost *ℤ v.low) (v.cost *ℤ v.high)

abbrev pub least_box_cost : ModelParts → ℤ
least_box_cost m = sum_below (length m.vars) (λ j. least_var_cost (var_at m.vars j))

abbrev pub greatest_box_cost : ModelParts → ℤ
greatest_box_cost m = sum_below (length m.vars) (λ j. greatest_var_cost (var_at m.vars j))

-- one more than the greatest cost over the box, so more than each solution costs
abbrev pub cost_above_all : ModelParts → ℤ
cost_above_all m = greatest_box_cost m +ℤ pos 1
