-- Steps of the loops that add products of numbers and uses.
use Rattle.std.proofs.Common.{◌≡◌, ℕ, ◌+◌, ◌*◌, ◌≤◌, ℤ, pos, ◌+ℤ◌, ◌*ℤ◌, FitsSigned, to_z, of_z, ◌∙◌, ap, subst, sym, arith}
use Rattle.std.specs.Int.{w64, w128}
use Rattle.std.proofs.lemmas.Int.{ints, to_z-of_z}
use Rattle.path_graph.specs.Within.{IsWithin}
use Rattle.path_graph.proofs.SumLemmas.{IsSumWithin, product_within, signed_loop_step}

-- how far one product is from 0
abbrev pub TERM : ℕ
TERM = 1000000000 * 16777216

pub product_near : (factor : ℤ) (uses : ℕ) → IsWithin 1000000000 factor → uses ≤ 16777216 → IsWithin TERM (factor *ℤ pos uses)
product_near factor uses near few = product_within 1000000000 16777216 factor (pos uses) near (omega (arith, ints, few), omega (arith, ints, few))

-- a sum of so few of them fits
pub sum_fits : (f : ℕ → ℤ) (n : ℕ) (total r : ℤ) → n ≤ 1000000 → IsSumWithin n f (n * TERM) total → IsWithin TERM r → FitsSigned w128 (total +ℤ to_z w128 (of_z w128 r))
sum_fits f n total r few before small =
    let fits : FitsSigned w128 r = omega (arith, ints, small.0, small.1) in
    subst (λ (x : ℤ). FitsSigned w128 (total +ℤ x)) (sym (to_z-of_z w128 r fits)) (omega (arith, ints, small.0, small.1, before.low, before.high))

pub sum_step : (f : ℕ → ℤ) (n : ℕ) (total r next : ℤ) → n ≤ 1000000 → IsSumWithin n f (n * TERM) total → r ≡ f n → IsWithin TERM r → next ≡ total +ℤ to_z w128 (of_z w128 r)
    → IsSumWithin (n + 1) f ((n + 1) * TERM) (to_z w128 (of_z w128 next))
sum_step f n total r next few before is small made =
    let fits : FitsSigned w128 r = omega (arith, ints, small.0, small.1) in
    let told : next ≡ total +ℤ r = made ∙ ap (λ (z : ℤ). total +ℤ z) (to_z-of_z w128 r fits) in
    let fits_next : FitsSigned w128 next = omega (arith, ints, told, small.0, small.1, before.low, before.high) in
    signed_loop_step w128 n f (n * TERM) TERM ((n + 1) * TERM) total r next before fits fits_next is small (omega arith) made

-- a product as code computes it
pub factor_told : (factor : ℤ) (uses : ℕ) (r : ℤ) → IsWithin 1000000000 factor → r ≡ to_z w64 (of_z w64 factor) *ℤ pos uses → r ≡ factor *ℤ pos uses
factor_told factor uses r near told =
    let fits : FitsSigned w64 factor = omega (arith, ints, near.0, near.1) in
    told ∙ ap (λ (z : ℤ). z *ℤ pos uses) (to_z-of_z w64 factor fits)
