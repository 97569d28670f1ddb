-- The coefficient of two lists of visits joined.
use Rattle.std.proofs.Common.{◌≡◌, ℕ, ◌+◌, ◌-◌, ◌<◌, List, [], ◌∷◌, ◌++◌, Option, None, Some, reverse, ◌∙◌, ap, arith, inl, inr}
use Rattle.std.specs.Prelude.{nat_le, if◌then◌else◌}
use Rattle.std.proofs.lemmas.List.{reverse-append}
use Rattle.std.proofs.lemmas.Bool.{cases_Bool}
use Rattle.std.proofs.lemmas.Bool.Decides.{nat_tests}
use Rattle.path_graph.specs.SetBits.{has_set}
use Rattle.rank1_cuts.specs.declared.cut.Cut.{Cut}
use Rattle.rank1_cuts.specs.Fit.{CutFits}
use Rattle.rank1_cuts.specs.Visits.{numerator_of, rises, state_after, state_from, rises_from, coef_of}
use Rattle.rank1_cuts.specs.Solutions.{coef_joined}
use Rattle.rank1_cuts.proofs.VisitsLemmas.{numerator_of-below, state_after-below, state_from-below, state_from-more, rises_from-append, rises_from-more}

-- 1 where the number reaches the denominator
abbrev reach : ℕ → ℕ → ℕ
reach den n = if nat_le den n then 1 else 0

-- what is left of it
abbrev left : ℕ → ℕ → ℕ
left den n = if nat_le den n then n - den else n

-- three numbers below the denominator reach it as often, whichever two are added first
added_either : (den s t p : ℕ) → s < den → t < den → p < den → reach den (s + p) + reach den (left den (s + p) + t) ≡ reach den (t + p) + reach den (s + left den (t + p))
added_either den s t p a b c = grind (arith, nat_tests, a, b, c)

-- and so do two with nothing added
kept_either : (den s t : ℕ) → s < den → t < den → reach den s + reach den (left den s + t) ≡ reach den t + reach den (s + left den t)
kept_either den s t a b = grind (arith, nat_tests, a, b)

-- and two of which either is forgotten
forgot_either : (den s t : ℕ) → s < den → t < den → reach den 0 + reach den (left den 0 + t) ≡ reach den 0 + reach den (s + left den 0)
forgot_either den s t a b = grind (arith, nat_tests, a, b)

-- a visit between two states counts as much with either of them
step_either : (cut : Cut) (s t : ℕ) (visit : Option ℕ) → CutFits cut → s < cut.den → t < cut.den
    → (if rises cut s visit then 1 else 0) + reach cut.den (state_after cut s visit + t) ≡ (if rises cut t visit then 1 else 0) + reach cut.den (s + state_after cut t visit)
step_either cut s t None fits a b = kept_either cut.den s t a b
step_either cut s t (Some set) fits a b =
    let p : ℕ = numerator_of cut.sets set in
    let small : p < cut.den = numerator_of-below cut.den cut.sets set (omega arith) (λ k l. (fits.numerators k l).1) in
    elim (cases_Bool (has_set cut.memory set)) [
      | inl e ↦ rw e (added_either cut.den s t p a b small)
      | inr e ↦ rw e (forgot_either cut.den s t a b)
    ]

-- going on from a state is as much as coming back to it
join_from : (cut : Cut) (s : ℕ) (ys : List (Option ℕ)) → CutFits cut → s < cut.den
    → rises_from cut s ys ≡ coef_of cut (reverse ys) + reach cut.den (s + state_from cut 0 (reverse ys))
join_from cut s [] fits below = grind (arith, nat_tests, below)
join_from cut s (visit ∷ ys) fits below =
    let t : ℕ = state_from cut 0 (reverse ys) in
    let turned : reverse (visit ∷ ys) ≡ reverse ys ++ visit ∷ [] = reverse-append (visit ∷ []) ys in
    let state : state_from cut 0 (reverse (visit ∷ ys)) ≡ state_after cut t visit = ap (state_from cut 0) turned ∙ state_from-more cut 0 (reverse ys) visit in
    let coef : coef_of cut (reverse (visit ∷ ys)) ≡ coef_of cut (reverse ys) + (if rises cut t visit then 1 else 0) = ap (coef_of cut) turned ∙ rises_from-more cut 0 (reverse ys) visit in
    let later = join_from cut (state_after cut s visit) ys fits (state_after-below cut s visit fits below) in
    let step = step_either cut s t visit fits below (state_from-below cut 0 (reverse ys) fits (omega arith)) in
    rw state (omega (arith, coef, later, step))

-- the coefficient of visits one after the other, from those of the visits forward and of the rest backward
pub join_coef : (cut : Cut) (xs ys : List (Option ℕ)) → CutFits cut → coef_of cut (xs ++ ys) ≡ coef_joined cut xs (reverse ys)
join_coef cut xs ys fits =
    let rest = join_from cut (state_from cut 0 xs) ys fits (state_from-below cut 0 xs fits (omega arith)) in
    omega (arith, rises_from-append cut 0 xs ys, rest)
