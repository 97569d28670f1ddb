-- What the walks of a plan do to a cut together, and the coefficient of two lists of visits joined.
use Rattle.std.specs.Prelude.{ℕ, ◌+◌, ◌*◌, ◌≤◌, nat_le, if◌then◌else◌, Option, List, sum_by}
use Rattle.path_graph.specs.Visits.{visit_count}
use Rattle.rank1_cuts.specs.declared.cut.Cut.{Cut}
use Rattle.rank1_cuts.specs.Visits.{state_from, coef_of}

-- how often a walk is taken, and its visits
abbrev pub TakenWalk : Type 0
TakenWalk = ℕ × List (Option ℕ)

-- how often the walks visit the set together
abbrev pub visits_in : List TakenWalk → ℕ → ℕ
visits_in walks set = sum_by (λ (w : TakenWalk). w.0 * visit_count set w.1) walks

-- they visit no set twice
abbrev pub VisitEachOnce : List TakenWalk → Type 0
VisitEachOnce walks = (set : ℕ) → visits_in walks set ≤ 1

-- the coefficients of the walks together
abbrev pub coef_in : Cut → List TakenWalk → ℕ
coef_in cut walks = sum_by (λ (w : TakenWalk). w.0 * coef_of cut w.1) walks

-- the coefficients of the visits before and after a place, the latter in backward order, and 1 more where the two
-- states make up the denominator
abbrev pub coef_joined : Cut → List (Option ℕ) → List (Option ℕ) → ℕ
coef_joined cut forward backward =
    coef_of cut forward + coef_of cut backward + (if nat_le cut.den (state_from cut 0 forward + state_from cut 0 backward) then 1 else 0)
