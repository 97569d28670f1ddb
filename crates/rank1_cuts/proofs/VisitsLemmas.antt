-- Lemmas on states and coefficients.
use Rattle.std.proofs.Common.{◌≡◌, ℕ, ◌+◌, ◌-◌, ◌*◌, ◌/◌, ◌<◌, ◌≤◌, List, [], ◌∷◌, ◌++◌, Option, None, Some, length, ◌==◌, true, suc, mul-add, mul_comm, get_or, refl, sym, ◌∙◌, ap, arith, inl, inr}
use Rattle.std.specs.Prelude.{nat_le, if◌then◌else◌, sum_by}
use Rattle.std.proofs.lemmas.List.Sums.{sum_by-cons}
use Rattle.std.proofs.lemmas.Nat.{div-mul-add}
use Rattle.std.proofs.lemmas.Bool.{cond-true, cond_both, cases_Bool, leb-true, leb-false}
use Rattle.path_graph.specs.SetBits.{has_set}
use Rattle.rank1_cuts.specs.declared.cut.Cut.{Cut}
use Rattle.rank1_cuts.specs.declared.cut.CutSet.{CutSet}
use Rattle.rank1_cuts.specs.Fit.{item_at, CutFits}
use Rattle.rank1_cuts.specs.Visits.{numerator_of, numerator_at, gathered, rises, state_after, state_from, rises_from, coef_of}

-- visits one after the other: the second begin at the state that the first leave
pub state_from-append : (cut : Cut) (state : ℕ) (xs ys : List (Option ℕ)) → state_from cut state (xs ++ ys) ≡ state_from cut (state_from cut state xs) ys
state_from-append cut state [] ys = refl
state_from-append cut state (x ∷ xs) ys = state_from-append cut (state_after cut state x) xs ys

pub rises_from-append : (cut : Cut) (state : ℕ) (xs ys : List (Option ℕ)) → rises_from cut state (xs ++ ys) ≡ rises_from cut state xs + rises_from cut (state_from cut state xs) ys
rises_from-append cut state [] ys = omega arith
rises_from-append cut state (x ∷ xs) ys =
    let rest = rises_from-append cut (state_after cut state x) xs ys in
    omega (arith, rest)

-- one visit more, as a step from the state before it
pub state_from-more : (cut : Cut) (state : ℕ) (xs : List (Option ℕ)) (visit : Option ℕ) → state_from cut state (xs ++ visit ∷ []) ≡ state_after cut (state_from cut state xs) visit
state_from-more cut state xs visit = state_from-append cut state xs (visit ∷ [])

pub rises_from-more : (cut : Cut) (state : ℕ) (xs : List (Option ℕ)) (visit : Option ℕ)
    → rises_from cut state (xs ++ visit ∷ []) ≡ rises_from cut state xs + (if rises cut (state_from cut state xs) visit then 1 else 0)
rises_from-more cut state xs visit = rises_from-append cut state xs (visit ∷ []) ∙ omega arith

-- a numerator is below the denominator
pub numerator_of-below : (den : ℕ) (sets : List CutSet) (s : ℕ) → 0 < den → ((k : ℕ) → k < length sets → (item_at sets k).num < den) → numerator_of sets s < den
numerator_of-below den [] s some each = some
numerator_of-below den (item ∷ rest) s some each =
    cond_both (item.set == s) item.num (numerator_of rest s) (λ (n : ℕ). n < den)
    (λ e. each 0 (omega arith))
    (λ e. numerator_of-below den rest s some (λ k l. each (suc k) (omega arith)))

pub gathered-below : (cut : Cut) (state : ℕ) (visit : Option ℕ) → CutFits cut → state < cut.den → gathered cut state visit < cut.den + cut.den
gathered-below cut state None fits below = omega arith
gathered-below cut state (Some s) fits below =
    let num = numerator_of-below cut.den cut.sets s (omega arith) (λ k l. (fits.numerators k l).1) in
    cond_both (has_set cut.memory s) (state + numerator_of cut.sets s) 0 (λ (n : ℕ). n < cut.den + cut.den) (λ e. omega arith) (λ e. omega arith)

-- a state stays below the denominator
pub state_after-below : (cut : Cut) (state : ℕ) (visit : Option ℕ) → CutFits cut → state < cut.den → state_after cut state visit < cut.den
state_after-below cut state visit fits below =
    let sum : ℕ = gathered cut state visit in
    let most : sum < cut.den + cut.den = gathered-below cut state visit fits below in
    cond_both (nat_le cut.den sum) (sum - cut.den) sum (λ (n : ℕ). n < cut.den) (λ e. omega arith) (λ e. leb-false cut.den sum e)

pub state_from-below : (cut : Cut) (state : ℕ) (visits : List (Option ℕ)) → CutFits cut → state < cut.den → state_from cut state visits < cut.den
state_from-below cut state [] fits below = below
state_from-below cut state (visit ∷ rest) fits below = state_from-below cut (state_after cut state visit) rest fits (state_after-below cut state visit fits below)

-- a step keeps the state and the denominators counted, up to what a visit outside the memory forgets
step_counts : (cut : Cut) (state : ℕ) (visit : Option ℕ) → cut.den * (if rises cut state visit then 1 else 0) + state_after cut state visit ≡ gathered cut state visit
step_counts cut state visit =
    let sum : ℕ = gathered cut state visit in
    elim (cases_Bool (nat_le cut.den sum)) [
      | inl e ↦ let low = leb-true cut.den sum e in rw e (omega arith)
      | inr e ↦ rw e (omega arith)
    ]

gathered-most : (cut : Cut) (state : ℕ) (visit : Option ℕ) → gathered cut state visit ≤ state + numerator_at cut visit
gathered-most cut state None = omega arith
gathered-most cut state (Some s) =
    cond_both (has_set cut.memory s) (state + numerator_of cut.sets s) 0 (λ (n : ℕ). n ≤ state + numerator_of cut.sets s) (λ e. omega arith) (λ e. omega arith)

-- whatever the memory, the coefficient times the denominator is at most the sum of the numerators of the visits
pub rises_from-most : (cut : Cut) (state : ℕ) (visits : List (Option ℕ))
    → cut.den * rises_from cut state visits + state_from cut state visits ≤ state + sum_by (numerator_at cut) visits
rises_from-most cut state [] = omega arith
rises_from-most cut state (visit ∷ rest) =
    let after : ℕ = state_after cut state visit in
    let later = rises_from-most cut after rest in
    let step = step_counts cut state visit in
    let most = gathered-most cut state visit in
    let one : ℕ = if rises cut state visit then 1 else 0 in
    let parts : cut.den * rises_from cut state (visit ∷ rest) ≡ cut.den * one + cut.den * rises_from cut after rest = mul-add cut.den one (rises_from cut after rest) in
    let last : state_from cut state (visit ∷ rest) ≡ state_from cut after rest = refl in
    let sums : sum_by (numerator_at cut) (visit ∷ rest) ≡ numerator_at cut visit + sum_by (numerator_at cut) rest = sum_by-cons (numerator_at cut) visit rest in
    omega (arith, parts, last, sums, step, most, later)

-- the visit is inside the memory, or of no set
abbrev pub IsInside : Cut → Option ℕ → Type 0
IsInside cut None = Unit {0}
IsInside cut (Some s) = has_set cut.memory s ≡ true

gathered-inside : (cut : Cut) (state : ℕ) (visit : Option ℕ) → IsInside cut visit → gathered cut state visit ≡ state + numerator_at cut visit
gathered-inside cut state None h = omega arith
gathered-inside cut state (Some s) h = cond-true (has_set cut.memory s) (state + numerator_of cut.sets s) 0 h

-- where nothing is forgotten, the denominator times the coefficient and the state are the sum of the numerators
rises_from-inside : (cut : Cut) (state : ℕ) (visits : List (Option ℕ)) → ((k : ℕ) → k < length visits → IsInside cut (get_or visits k None))
    → cut.den * rises_from cut state visits + state_from cut state visits ≡ state + sum_by (numerator_at cut) visits
rises_from-inside cut state [] inside = omega arith
rises_from-inside cut state (visit ∷ rest) inside =
    let after : ℕ = state_after cut state visit in
    let later = rises_from-inside cut after rest (λ k l. inside (suc k) (omega arith)) in
    let step = step_counts cut state visit in
    let here = gathered-inside cut state visit (inside 0 (omega arith)) in
    let one : ℕ = if rises cut state visit then 1 else 0 in
    let parts : cut.den * rises_from cut state (visit ∷ rest) ≡ cut.den * one + cut.den * rises_from cut after rest = mul-add cut.den one (rises_from cut after rest) in
    let last : state_from cut state (visit ∷ rest) ≡ state_from cut after rest = refl in
    let sums : sum_by (numerator_at cut) (visit ∷ rest) ≡ numerator_at cut visit + sum_by (numerator_at cut) rest = sum_by-cons (numerator_at cut) visit rest in
    omega (arith, parts, last, sums, step, here, later)

-- with all visits inside the memory the coefficient is the sum of their numerators over the denominator, rounded down
pub coef_of-inside : (cut : Cut) (visits : List (Option ℕ)) → CutFits cut → ((k : ℕ) → k < length visits → IsInside cut (get_or visits k None))
    → coef_of cut visits ≡ sum_by (numerator_at cut) visits / cut.den
coef_of-inside cut visits fits inside =
    let some : 0 < cut.den = omega (arith, fits.denominator.0) in
    let below = state_from-below cut 0 visits fits some in
    let whole = rises_from-inside cut 0 visits inside in
    let turned : coef_of cut visits * cut.den + state_from cut 0 visits ≡ sum_by (numerator_at cut) visits = omega (arith, whole, mul_comm (coef_of cut visits) cut.den) in
    sym (ap (λ (n : ℕ). n / cut.den) (sym turned) ∙ div-mul-add (coef_of cut visits) cut.den (state_from cut 0 visits) below)
