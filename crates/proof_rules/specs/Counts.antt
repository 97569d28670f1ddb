-- Counts over a list of walks, and their plan.
use Rattle.std.specs.Prelude.{◌≡◌, ℕ, ◌<◌, ◌≤◌, nat_lt, ℤ, pos, ◌≤ℤ◌, List, [], ◌∷◌, length, filter, slice_index, slice_index_or, All, Contains}
use Rattle.route_model.specs.declared.plan.Plan.{Plan}
use Rattle.route_model.specs.declared.plan.Taken.{Taken}
use Rattle.route_model.specs.Parts.{plan_with}
use Rattle.multipliers.specs.Quantities.{plan_sum}

-- a walk of a graph
pub record Walk : Type 0 where
  pub graph : ℕ
  pub arcs : List ℕ

abbrev pub walk_at : List Walk → ℕ → Walk
walk_at walks i = slice_index_or walks i (record { graph = 0; arcs = [] })

abbrev pub walk_of : Taken → Walk
walk_of t = record { graph = t.graph; arcs = t.arcs }

-- walks with their counts, and the plan of those that are taken
abbrev pub with_counts : List Walk → List ℕ → List Taken
with_counts [] counts = []
with_counts (w ∷ rest) [] = []
with_counts (w ∷ rest) (n ∷ counts) = record { graph = w.graph; count = n; arcs = w.arcs } ∷ with_counts rest counts

abbrev pub plan_of : List Walk → List ℕ → Plan
plan_of walks counts = record { paths = filter (λ (t : Taken). nat_lt 0 t.count) (with_counts walks counts) }

-- each walk of the paths stands in the list
abbrev pub AreAmong : List Walk → List Taken → Type 0
AreAmong walks paths = All (λ (t : Taken). Contains walks (walk_of t)) paths

-- counts, one for each walk, that have as much of each quantity as a plan
pub record AreCounts (walks : List Walk) (plan : Plan) (counts : List ℕ) : Type 0 where
  pub size : length counts ≡ length walks
  pub same : (of_walk : ℕ → List ℕ → ℤ) → plan_sum of_walk (plan_with (with_counts walks counts)) ≡ plan_sum of_walk plan

-- a plan of listed walks has counts
abbrev pub CountsLaw : Type 0
CountsLaw = (walks : List Walk) (plan : Plan) → AreAmong walks plan.paths → (counts : List ℕ) × AreCounts walks plan counts

-- the plan of counts takes listed walks, each at least once, and has as much of each quantity
pub record IsPlanOf (walks : List Walk) (counts : List ℕ) (plan : Plan) : Type 0 where
  pub some : All (λ (t : Taken). 1 ≤ t.count) plan.paths
  pub among : AreAmong walks plan.paths
  pub same : (of_walk : ℕ → List ℕ → ℤ) → plan_sum of_walk plan ≡ plan_sum of_walk (plan_with (with_counts walks counts))

abbrev pub PlanOfLaw : Type 0
PlanOfLaw = (walks : List Walk) (counts : List ℕ) → IsPlanOf walks counts (plan_of walks counts)

-- a count is at most what the paths have of any quantity of which no walk has less than none and its own has one
abbrev pub CountMostLaw : Type 0
CountMostLaw = (walks : List Walk) (counts : List ℕ) (i : ℕ) (of_walk : ℕ → List ℕ → ℤ) → ((g : ℕ) (arcs : List ℕ) → pos 0 ≤ℤ (of_walk g arcs))
    → length counts ≡ length walks → i < length walks → pos 1 ≤ℤ (of_walk (walk_at walks i).graph (walk_at walks i).arcs)
    → pos (slice_index counts i) ≤ℤ (plan_sum of_walk (plan_with (with_counts walks counts)))
