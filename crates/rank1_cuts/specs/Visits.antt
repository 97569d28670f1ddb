-- The state and the coefficient of a cut on a list of visits. A visit is the packing set of a vertex, or none.
use Rattle.std.specs.Prelude.{ℕ, ◌+◌, ◌-◌, nat_le, Bool, if◌then◌else◌, Option, None, Some, List, [], ◌∷◌, ◌==◌}
use Rattle.path_graph.specs.SetBits.{has_set}
use Rattle.rank1_cuts.specs.declared.cut.Cut.{Cut}
use Rattle.rank1_cuts.specs.declared.cut.CutSet.{CutSet}

-- the numerator of a set, 0 where it is not among those of the cut
abbrev pub numerator_of : List CutSet → ℕ → ℕ
numerator_of [] s = 0
numerator_of (each ∷ rest) s = if each.set == s then each.num else numerator_of rest s

-- what a visit adds where it is inside the memory
abbrev pub numerator_at : Cut → Option ℕ → ℕ
numerator_at cut None = 0
numerator_at cut (Some s) = numerator_of cut.sets s

-- what a visit makes of a state: of no set, the state itself; outside the memory 0; inside, the set's numerator more
abbrev pub gathered : Cut → ℕ → Option ℕ → ℕ
gathered cut state None = state
gathered cut state (Some s) = if has_set cut.memory s then state + numerator_of cut.sets s else 0

-- the coefficient rises where that reaches the denominator
abbrev pub rises : Cut → ℕ → Option ℕ → Bool
rises cut state visit = nat_le cut.den (gathered cut state visit)

-- and then the denominator is subtracted
abbrev pub state_after : Cut → ℕ → Option ℕ → ℕ
state_after cut state visit =
    let sum = gathered cut state visit in
    if rises cut state visit then sum - cut.den else sum

-- the state after visits that begin at a state
abbrev pub state_from : Cut → ℕ → List (Option ℕ) → ℕ
state_from cut state [] = state
state_from cut state (visit ∷ rest) = state_from cut (state_after cut state visit) rest

-- how often the coefficient rises over visits that begin at a state
abbrev pub rises_from : Cut → ℕ → List (Option ℕ) → ℕ
rises_from cut state [] = 0
rises_from cut state (visit ∷ rest) = (if rises cut state visit then 1 else 0) + rises_from cut (state_after cut state visit) rest

-- the coefficient of the cut on a list of visits: the state is 0 at first
abbrev pub coef_of : Cut → List (Option ℕ) → ℕ
coef_of cut visits = rises_from cut 0 visits
