-- Lemmas on distances.
use Rattle.std.proofs.Common.{◌≡◌, ℕ, zero, suc, ◌+◌, ◌-◌, ◌*◌, ◌≤◌, Bool, true, false, inl, inr, refl, sym, subst, arith, mul-le-mul, nat_le}
use Rattle.std.specs.Prelude.{if◌then◌else◌}
use Rattle.std.proofs.lemmas.Bool.{cases_eq, cases_lt}
use Rattle.std.proofs.lemmas.Bool.Decides.{nat_tests}
use Rattle.route_tasks.specs.declared.task.Style.{Style}
use Rattle.route_tasks.specs.declared.task.Style.TheVariants.{Euclid, Tenths}
use Rattle.route_tasks.specs.Distance.{IsDistance, AtMostNearest, AtMostTenths, greatest_up_to, root_of}

-- the greatest number that passes a test is found, where it is not past the end
pub found : (n : ℕ) (test : ℕ → Bool) (d : ℕ) → d ≤ n → (1 ≤ d → test d ≡ true) → ((e : ℕ) → test e ≡ true → e ≤ d) → greatest_up_to n test ≡ d
unfolding greatest_up_to
found zero test d few passes most = omega (arith, few)
found (suc n) test d few passes most = elim (cases_eq d (suc n)) [
  | inl same ↦
      let here : test (suc n) ≡ true = subst (λ (k : ℕ). test k ≡ true) same (passes (omega (arith, same))) in
      rw here (sym same)
  | inr other ↦
      let no : test (suc n) ≡ false = fails (test (suc n)) (λ t. let l = most (suc n) t in omega (arith, l, few, other)) in
      rw no (found n test d (omega (arith, few, other)) passes most)
]
  where
    fails : (b : Bool) → (b ≡ true → ⊥) → b ≡ false
    fails true h = absurd (h refl)
    fails false h = refl

-- a test of order passes where the order holds, and only there
le_passes : (a b : ℕ) → a ≤ b → nat_le a b ≡ true
le_passes a b l = grind (arith, nat_tests)

passes_le : (a b : ℕ) → nat_le a b ≡ true → a ≤ b
passes_le a b t = grind (arith, nat_tests)

pub square_rises : (a b : ℕ) → a ≤ b → a * a ≤ b * b
square_rises a b l = mul-le-mul l l

-- no number above the squared distance passes
nearest_small : (square d : ℕ) → AtMostNearest square d → 1 ≤ square → d ≤ square
nearest_small square d h some = elim (cases_lt square d) [
  | inl l ↦
      let wide : (2 * square + 1) * (2 * square + 1) ≤ (2 * d - 1) * (2 * d - 1) = mul-le-mul (omega (arith, l)) (omega (arith, l)) in
      absurd (omega (arith, wide, h))
  | inr l ↦ l
]

tenths_small : (square d : ℕ) → AtMostTenths square d → d ≤ 100 * square
tenths_small square d h = elim (cases_eq d 0) [
  | inl least ↦ omega (arith, least)
  | inr some ↦
      let wide : 1 * d ≤ d * d = mul-le-mul (omega (arith, some)) (omega arith) in
      omega (arith, wide, h)
]

-- what is a distance by the rule is the one that is computed
pub root_is : (style : Style) (square d : ℕ) → IsDistance style square d → root_of style square ≡ d
unfolding root_of greatest_up_to
root_is Euclid zero d rule = sym (rule.none refl)
root_is Euclid (suc n) d rule =
    let is = rule.greatest (omega arith) in
    found (suc n) (λ e. nat_le ((2 * e - 1) * (2 * e - 1)) (4 * suc n)) d (nearest_small (suc n) d is.holds (omega arith))
    (λ some. le_passes ((2 * d - 1) * (2 * d - 1)) (4 * suc n) is.holds)
    (λ e t. is.most e (passes_le ((2 * e - 1) * (2 * e - 1)) (4 * suc n) t))
root_is Tenths square d rule =
    found (100 * square) (λ e. nat_le (e * e) (100 * square)) d (tenths_small square d rule.holds)
    (λ some. le_passes (d * d) (100 * square) rule.holds)
    (λ e t. rule.most e (passes_le (e * e) (100 * square) t))

-- what is found passes, or is 0
found_passes : (n : ℕ) (test : ℕ → Bool) → 1 ≤ greatest_up_to n test → test (greatest_up_to n test) ≡ true
unfolding greatest_up_to
found_passes zero test some = absurd (omega (arith, some))
found_passes (suc n) test some = by_test (test (suc n)) refl (found_passes n test) some
  where
    by_test : (b : Bool) → test (suc n) ≡ b → (1 ≤ greatest_up_to n test → test (greatest_up_to n test) ≡ true) → 1 ≤ (if b then suc n else greatest_up_to n test) → test (if b then suc n else greatest_up_to n test) ≡ true
    by_test true e less h = e
    by_test false e less h = less h

-- no distance is above 2,828,427
pub root_small : (style : Style) (square : ℕ) → square ≤ 80000000000 → root_of style square ≤ 2828427
unfolding root_of
root_small Euclid square few = elim (cases_lt 2828427 (root_of Euclid square)) [
  | inl long ↦
      let d : ℕ = greatest_up_to square (λ e. nat_le ((2 * e - 1) * (2 * e - 1)) (4 * square)) in
      let passes = passes_le ((2 * d - 1) * (2 * d - 1)) (4 * square) (found_passes square (λ e. nat_le ((2 * e - 1) * (2 * e - 1)) (4 * square)) (omega (arith, long))) in
      let wide : 2828427 * 2828427 ≤ (2 * d - 1) * (2 * d - 1) = square_rises 2828427 (2 * d - 1) (omega (arith, long)) in
      absurd (omega (arith, wide, passes, few))
  | inr short ↦ short
]
root_small Tenths square few = elim (cases_lt 2828427 (root_of Tenths square)) [
  | inl long ↦
      let d : ℕ = greatest_up_to (100 * square) (λ e. nat_le (e * e) (100 * square)) in
      let passes = passes_le (d * d) (100 * square) (found_passes (100 * square) (λ e. nat_le (e * e) (100 * square)) (omega (arith, long))) in
      let wide : 2828428 * 2828428 ≤ d * d = square_rises 2828428 d (omega (arith, long)) in
      absurd (omega (arith, wide, passes, few))
  | inr short ↦ short
]
