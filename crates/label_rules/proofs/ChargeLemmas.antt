-- Sums of the weights of cuts, each so many times.
use Rattle.std.proofs.Common.{◌≡◌, ℕ, ◌+◌, ◌<◌, ◌≤◌, ℤ, pos, ◌+ℤ◌, ◌≤ℤ◌, length, get_or, mul-add, mul-le-mul_left, ◌∙◌, ap, arith}
use Rattle.std.proofs.lemmas.Int.{ints}
use Rattle.path_graph.specs.Sums.{sum_below}
use Rattle.path_graph.proofs.SumLemmas.{sum_below-same, sum_below-add, sum_below-≤, sum_below-zero}
use Rattle.label_rules.specs.Labels.{Setting, charge}

charge-add : (S : Setting) (i m n : ℕ) → charge S i (m + n) ≡ charge S i m +ℤ charge S i n
charge-add S i m n = ap pos (mul-add _ m n)

-- the weights of all cuts, each so many times
abbrev pub charges : Setting → (ℕ → ℕ) → ℤ
charges S count = sum_below (length S.cuts) (λ i. charge S i (count i))

pub charges-same : (S : Setting) (f h : ℕ → ℕ) → ((i : ℕ) → i < length S.cuts → f i ≡ h i) → charges S f ≡ charges S h
charges-same S f h e = sum_below-same (length S.cuts) (λ i. charge S i (f i)) (λ i. charge S i (h i)) (λ i l. ap (charge S i) (e i l))

pub charges-add : (S : Setting) (f h : ℕ → ℕ) → charges S (λ i. f i + h i) ≡ charges S f +ℤ charges S h
charges-add S f h =
    sum_below-same (length S.cuts) (λ i. charge S i (f i + h i)) (λ i. charge S i (f i) +ℤ charge S i (h i)) (λ i l. charge-add S i (f i) (h i))
    ∙ sum_below-add (length S.cuts) (λ i. charge S i (f i)) (λ i. charge S i (h i))

pub charges-none : (S : Setting) → charges S (λ i. 0) ≡ pos 0
charges-none S =
    sum_below-same (length S.cuts) (λ i. charge S i 0) (λ i. pos 0) (λ i l. ap pos (omega arith))
    ∙ sum_below-zero (length S.cuts)

pub charges-≤ : (S : Setting) (f h : ℕ → ℕ) → ((i : ℕ) → i < length S.cuts → f i ≤ h i) → charges S f ≤ℤ charges S h
charges-≤ S f h e =
    sum_below-≤ (length S.cuts) (λ i. charge S i (f i)) (λ i. charge S i (h i))
    (λ i l. let most = mul-le-mul_left (get_or S.weights i 0) (e i l) in omega (arith, ints, most))
