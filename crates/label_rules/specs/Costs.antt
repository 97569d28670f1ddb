-- What labels cost: by their arcs and visits, and by how often each unit, set and cut is used, visited and raised.
use Rattle.std.specs.Prelude.{◌≡◌, ℕ, ◌<◌, ℤ, pos, ◌+ℤ◌, ◌*ℤ◌, IfSome, List, length, sum_by}
use Rattle.path_graph.specs.Sums.{sum_below, sum_over}
use Rattle.path_graph.specs.Visits.{visit_over, visits_along, visit_count}
use Rattle.rank1_cuts.specs.Visits.{coef_of}
use Rattle.label_rules.specs.Labels.{Setting, cut_at, charge, visit_cost, forward_label}

-- what arcs from the source cost: the start, each arc, each visit, and the weight of each cut by its coefficient
abbrev pub cost_along : Setting → List ℕ → ℤ
cost_along S arcs =
    ((S.start +ℤ sum_over S.arc_cost arcs) +ℤ sum_over (visit_cost S) (visits_along S.graph arcs))
    +ℤ sum_below (length S.cuts) (λ i. charge S i (coef_of (cut_at S i) (visits_along S.graph arcs)))

-- so does their label
abbrev pub LabelCostLaw : Type 0
LabelCostLaw = (S : Setting) (arcs : List ℕ) → (forward_label S arcs).cost ≡ cost_along S arcs

-- arcs cost by units, of which each arc uses some, so often; each visit is to a set below a number
pub record IsByUnits (S : Setting) (units : ℕ) (uses : ℕ → ℕ → ℕ) (cost : ℕ → ℤ) (sets : ℕ) : Type 0 where
  pub arcs : (a : ℕ) → S.arc_cost a ≡ sum_below units (λ j. pos (uses j a) *ℤ cost j)
  pub visits : (a : ℕ) → IfSome (visit_over S.graph a) (λ s. s < sets)

-- then they cost the start, and each unit, set and cut by how often it is used, visited and raised
abbrev pub cost_by_units : Setting → ℕ → (ℕ → ℕ → ℕ) → (ℕ → ℤ) → ℕ → List ℕ → ℤ
cost_by_units S units uses cost sets arcs =
    ((S.start +ℤ sum_below units (λ j. pos (sum_by (uses j) arcs) *ℤ cost j))
    +ℤ sum_below sets (λ s. pos (visit_count s (visits_along S.graph arcs)) *ℤ S.set_cost s))
    +ℤ sum_below (length S.cuts) (λ i. charge S i (coef_of (cut_at S i) (visits_along S.graph arcs)))

abbrev pub UnitCostLaw : Type 0
UnitCostLaw = (S : Setting) (units : ℕ) (uses : ℕ → ℕ → ℕ) (cost : ℕ → ℤ) (sets : ℕ) (arcs : List ℕ) → IsByUnits S units uses cost sets
    → (forward_label S arcs).cost ≡ cost_by_units S units uses cost sets arcs
