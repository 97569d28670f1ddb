-- What listed walks cost, and the terms of their costs over the boxes of counts.
use Rattle.std.specs.Prelude.{ℕ, ℤ, pos, ◌+ℤ◌, unsigned_abs, sum_by, List, [], ◌∷◌, map, slice_index_or}
use Rattle.path_graph.specs.Sums.{sum_over}
use Rattle.route_model.specs.declared.parts.Var.{Var}
use Rattle.route_model.specs.declared.places.Span.{Span}
use Rattle.route_model.specs.Parts.{ModelParts, var_at}
use Rattle.route_model.specs.Terms.{or_zero, sides_of, term}
use Rattle.multipliers.specs.Quantities.{cost_along, scaled}
use Rattle.proof_rules.specs.Counts.{Walk}

-- the cost of a variable, and of arcs: of the variables that each of them maps
abbrev pub cost_at : List Var → ℕ → ℤ
cost_at vars j = (var_at vars j).cost

abbrev pub arc_cost : List Var → List (List ℕ) → ℕ → ℤ
arc_cost vars maps a = sum_over (cost_at vars) (slice_index_or maps a [])

abbrev pub arcs_cost : List Var → List (List ℕ) → List ℕ → ℤ
arcs_cost vars maps arcs = sum_over (arc_cost vars maps) arcs

-- the cost of a walk, times 65,536
abbrev pub walk_cost : ModelParts → Walk → ℤ
walk_cost m w = scaled (cost_along m w.graph w.arcs)

abbrev pub walk_costs : ModelParts → List Walk → List ℤ
walk_costs m walks = map (walk_cost m) walks

-- the least that walks of such costs can cost together, each taken as often as its box allows
abbrev pub cost_terms : List ℤ → List Span → ℤ
cost_terms [] boxes = pos 0
cost_terms (cost ∷ costs) [] = pos 0
cost_terms (cost ∷ costs) (box ∷ boxes) = or_zero (term cost (sides_of box)) +ℤ cost_terms costs boxes

-- the sum of the high ends of boxes
abbrev pub tops : List Span → ℕ
tops boxes = sum_by (λ (box : Span). unsigned_abs box.high) boxes
