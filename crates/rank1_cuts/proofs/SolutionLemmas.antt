-- Every solution keeps a cut that fits, whatever its memory.
use Rattle.std.proofs.Common.{◌≡◌, ℕ, ◌+◌, ◌*◌, ◌≤◌, List, [], ◌∷◌, Option, None, Some, ◌==◌, mul-add, mul_comm, mul_left_comm, mul-le-mul_left, refl, ◌∙◌, ap, arith, inl, inr}
use Rattle.std.specs.Prelude.{if◌then◌else◌, sum_by}
use Rattle.std.proofs.lemmas.List.Sums.{sum_by-cons}
use Rattle.std.proofs.lemmas.Nat.{le-div}
use Rattle.std.proofs.lemmas.Bool.{cases_Bool}
use Rattle.std.proofs.lemmas.Bool.Decides.{nat_tests}
use Rattle.path_graph.specs.Visits.{is_visit, visit_count}
use Rattle.rank1_cuts.specs.declared.cut.Cut.{Cut}
use Rattle.rank1_cuts.specs.declared.cut.CutSet.{CutSet}
use Rattle.rank1_cuts.specs.Fit.{CutFits, right_side_of}
use Rattle.rank1_cuts.specs.Visits.{numerator_of, state_from, coef_of}
use Rattle.rank1_cuts.specs.Solutions.{TakenWalk, visits_in, VisitEachOnce, coef_in}
use Rattle.rank1_cuts.proofs.VisitsLemmas.{rises_from-most}

-- the numerator of a visit's set among the sets of a list
abbrev among : List CutSet → Option ℕ → ℕ
among sets None = 0
among sets (Some s) = numerator_of sets s

-- the numerators of all visits of the walks
abbrev weight : List CutSet → List TakenWalk → ℕ
weight sets walks = sum_by (λ (w : TakenWalk). w.0 * sum_by (among sets) w.1) walks

-- one set more counts at most its own visits
visit_weighs : (each : CutSet) (rest : List CutSet) (visit : Option ℕ) → among (each ∷ rest) visit ≤ each.num * (if is_visit each.set visit then 1 else 0) + among rest visit
visit_weighs each rest None = omega arith
visit_weighs each rest (Some s) =
    let turned : (s == each.set) ≡ (each.set == s) = grind (arith, nat_tests) in
    elim (cases_Bool (each.set == s)) [
      | inl e ↦ rw (turned, e) (omega arith)
      | inr e ↦ rw (turned, e) (omega arith)
    ]

visits_weigh : (each : CutSet) (rest : List CutSet) (visits : List (Option ℕ)) → sum_by (among (each ∷ rest)) visits ≤ each.num * visit_count each.set visits + sum_by (among rest) visits
visits_weigh each rest [] = omega arith
visits_weigh each rest (visit ∷ more) =
    let one : ℕ = if is_visit each.set visit then 1 else 0 in
    let here = visit_weighs each rest visit in
    let later = visits_weigh each rest more in
    let whole : sum_by (among (each ∷ rest)) (visit ∷ more) ≡ among (each ∷ rest) visit + sum_by (among (each ∷ rest)) more = sum_by-cons (among (each ∷ rest)) visit more in
    let less : sum_by (among rest) (visit ∷ more) ≡ among rest visit + sum_by (among rest) more = sum_by-cons (among rest) visit more in
    let counted : visit_count each.set (visit ∷ more) ≡ one + visit_count each.set more = sum_by-cons (λ (v : Option ℕ). if is_visit each.set v then 1 else 0) visit more in
    let parts : each.num * visit_count each.set (visit ∷ more) ≡ each.num * one + each.num * visit_count each.set more =
    ap (λ (n : ℕ). each.num * n) counted ∙ mul-add each.num one (visit_count each.set more) in
    omega (arith, here, later, whole, less, parts)

-- a number of times a sum of a product and a term
times_sum : (c n k r : ℕ) → c * (n * k + r) ≡ n * (c * k) + c * r
times_sum c n k r = mul-add c (n * k) r ∙ ap (λ (x : ℕ). x + c * r) (mul_left_comm c n k)

walks_weigh : (each : CutSet) (rest : List CutSet) (walks : List TakenWalk) → weight (each ∷ rest) walks ≤ each.num * visits_in walks each.set + weight rest walks
walks_weigh each rest [] = omega arith
walks_weigh each rest (w ∷ more) =
    let sets : List CutSet = each ∷ rest in
    let k : ℕ = visit_count each.set w.1 in
    let r : ℕ = sum_by (among rest) w.1 in
    let here : w.0 * sum_by (among sets) w.1 ≤ w.0 * (each.num * k + r) = mul-le-mul_left w.0 (visits_weigh each rest w.1) in
    let later = walks_weigh each rest more in
    let whole : weight sets (w ∷ more) ≡ w.0 * sum_by (among sets) w.1 + weight sets more = sum_by-cons (λ (v : TakenWalk). v.0 * sum_by (among sets) v.1) w more in
    let less : weight rest (w ∷ more) ≡ w.0 * r + weight rest more = sum_by-cons (λ (v : TakenWalk). v.0 * sum_by (among rest) v.1) w more in
    let counted : visits_in (w ∷ more) each.set ≡ w.0 * k + visits_in more each.set = sum_by-cons (λ (v : TakenWalk). v.0 * visit_count each.set v.1) w more in
    let parts : each.num * visits_in (w ∷ more) each.set ≡ each.num * (w.0 * k) + each.num * visits_in more each.set =
    ap (λ (n : ℕ). each.num * n) counted ∙ mul-add each.num (w.0 * k) (visits_in more each.set) in
    omega (arith, here, times_sum w.0 each.num k r, later, whole, less, parts)

-- with no sets there is nothing to add up
visits_none : (visits : List (Option ℕ)) → sum_by (among []) visits ≡ 0
visits_none [] = refl
visits_none (visit ∷ more) = sum_by-cons (among []) visit more ∙ omega (arith, visit_none visit, visits_none more)
  where
    visit_none : (v : Option ℕ) → among [] v ≡ 0
    visit_none None = refl
    visit_none (Some s) = refl

walks_none : (walks : List TakenWalk) → weight [] walks ≡ 0
walks_none [] = refl
walks_none (w ∷ more) =
    let here : w.0 * sum_by (among []) w.1 ≡ 0 = ap (λ (n : ℕ). w.0 * n) (visits_none w.1) ∙ omega arith in
    let whole : weight [] (w ∷ more) ≡ w.0 * sum_by (among []) w.1 + weight [] more = sum_by-cons (λ (v : TakenWalk). v.0 * sum_by (among []) v.1) w more in
    omega (arith, here, whole, walks_none more)

-- walks that visit no set twice add up at most each numerator once
weight_most : (sets : List CutSet) (walks : List TakenWalk) → VisitEachOnce walks → weight sets walks ≤ sum_by (λ (each : CutSet). each.num) sets
weight_most [] walks once = omega (arith, walks_none walks)
weight_most (each ∷ rest) walks once =
    let here : each.num * visits_in walks each.set ≤ each.num * 1 = mul-le-mul_left each.num (once each.set) in
    let whole : sum_by (λ (x : CutSet). x.num) (each ∷ rest) ≡ each.num + sum_by (λ (x : CutSet). x.num) rest = sum_by-cons (λ (x : CutSet). x.num) each rest in
    omega (arith, here, whole, walks_weigh each rest walks, weight_most rest walks once)

-- the denominator times the coefficients is at most what the visits add up
coef_weighs : (cut : Cut) (visits : List (Option ℕ)) → cut.den * coef_of cut visits ≤ sum_by (among cut.sets) visits
coef_weighs cut visits =
    let most : cut.den * coef_of cut visits + state_from cut 0 visits ≤ 0 + sum_by (among cut.sets) visits = rises_from-most cut 0 visits in
    omega (arith, most)

coefs_weigh : (cut : Cut) (walks : List TakenWalk) → cut.den * coef_in cut walks ≤ weight cut.sets walks
coefs_weigh cut [] = omega arith
coefs_weigh cut (w ∷ more) =
    let k : ℕ = coef_of cut w.1 in
    let here : w.0 * (cut.den * k) ≤ w.0 * sum_by (among cut.sets) w.1 = mul-le-mul_left w.0 (coef_weighs cut w.1) in
    let moved : cut.den * (w.0 * k) ≡ w.0 * (cut.den * k) = mul_left_comm cut.den w.0 k in
    let whole : weight cut.sets (w ∷ more) ≡ w.0 * sum_by (among cut.sets) w.1 + weight cut.sets more = sum_by-cons (λ (v : TakenWalk). v.0 * sum_by (among cut.sets) v.1) w more in
    let counted : coef_in cut (w ∷ more) ≡ w.0 * k + coef_in cut more = sum_by-cons (λ (v : TakenWalk). v.0 * coef_of cut v.1) w more in
    let parts : cut.den * coef_in cut (w ∷ more) ≡ cut.den * (w.0 * k) + cut.den * coef_in cut more = ap (λ (n : ℕ). cut.den * n) counted ∙ mul-add cut.den (w.0 * k) (coef_in cut more) in
    omega (arith, here, moved, whole, parts, coefs_weigh cut more)

-- where the walks visit no set twice, their coefficients together are at most the right side
pub solution_keeps : (cut : Cut) (walks : List TakenWalk) → CutFits cut → VisitEachOnce walks → coef_in cut walks ≤ right_side_of cut
solution_keeps cut walks fits once =
    let sum : ℕ = sum_by (λ (each : CutSet). each.num) cut.sets in
    let turned : coef_in cut walks * cut.den ≤ sum = omega (arith, mul_comm (coef_in cut walks) cut.den, coefs_weigh cut walks, weight_most cut.sets walks once) in
    le-div (coef_in cut walks) sum cut.den (omega (arith, fits.denominator.0)) turned
