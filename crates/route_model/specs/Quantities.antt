-- What a plan uses: sums over its paths, counts included.
use Rattle.std.specs.Prelude.{ℕ, ◌*◌, ℤ, pos, ◌*ℤ◌, List, length, Bool, ◌==◌, if◌then◌else◌, sum_by, count_by}
use Rattle.std.specs.List.{list_any}
use Rattle.path_graph.specs.Sums.{sum_below}
use Rattle.path_graph.specs.Visits.{visits_along, visit_count}
use Rattle.path_graph.specs.Walk.{GraphParts}
use Rattle.route_model.specs.declared.parts.RowTerm.{RowTerm}
use Rattle.route_model.specs.declared.plan.Plan.{Plan}
use Rattle.route_model.specs.Parts.{ModelParts, var_at, term_at, graph_in, mapped_vars}

-- a quantity of a plan: that of each walk, which goes by its graph and arcs, as often as the walk is taken
abbrev pub quantity : (ℕ → List ℕ → ℕ) → Plan → ℕ
quantity of_walk plan = sum_by (λ t. t.count * of_walk t.graph t.arcs) plan.paths

-- an arc maps a variable
abbrev pub is_mapped : List (List (List ℕ)) → ℕ → ℕ → ℕ → Bool
is_mapped maps j g a = list_any (λ i. i == j) (mapped_vars maps g a)

-- how often a walk uses a variable, and the value of the variable
abbrev pub uses_in : List (List (List ℕ)) → ℕ → ℕ → List ℕ → ℕ
uses_in maps j g arcs = count_by (is_mapped maps j g) arcs

abbrev pub value_of : ModelParts → Plan → ℕ → ℕ
value_of m plan j = quantity (uses_in m.maps j) plan

-- how often a walk visits a packing set, and how often a plan does
abbrev pub visits_in : List GraphParts → ℕ → ℕ → List ℕ → ℕ
visits_in graphs s g arcs = visit_count s (visits_along (graph_in graphs g) arcs)

abbrev pub visits_of : ModelParts → Plan → ℕ → ℕ
visits_of m plan s = quantity (visits_in m.graphs s) plan

-- how many paths of a graph there are
abbrev pub is_of : ℕ → ℕ → List ℕ → ℕ
is_of g h arcs = if h == g then 1 else 0

abbrev pub paths_of : Plan → ℕ → ℕ
paths_of plan g = quantity (is_of g) plan

-- the sum of a row with these terms
abbrev pub row_sum : ModelParts → Plan → List RowTerm → ℤ
row_sum m plan terms = sum_below (length terms) (λ k. (term_at terms k).coef *ℤ pos (value_of m plan (term_at terms k).var))

-- the cost of a plan
abbrev pub cost_of : ModelParts → Plan → ℤ
cost_of m plan = sum_below (length m.vars) (λ j. (var_at m.vars j).cost *ℤ pos (value_of m plan j))
