-- Sets that are made from a test of the numbers below 512, and the test of inclusion.
use Rattle.std.proofs.Common.{◌≡◌, ℕ, zero, suc, ◌+◌, ◌-◌, ◌*◌, ◌/◌, ◌%◌, ◌^◌, ◌<◌, ◌&&◌, ◌||◌, not, nat_lt, cond, Bool, true, false, inl, inr, length, get_or, refl, sym, ◌∙◌, ap, subst, arith}
use Rattle.std.specs.Bool.{Decides}
use Rattle.std.specs.Int.{bit_at}
use Rattle.std.proofs.Math.Nat.{pow-suc}
use Rattle.std.proofs.lemmas.Bool.{cases_lt, cond_both, cond-true, and_parts, and_from, lt-ltb, ltb-true}
use Rattle.std.proofs.lemmas.Bool.Decides.{Decides-below_and, Decides-like}
use Rattle.std.proofs.lemmas.Nat.{pow_pos}
use Rattle.std.proofs.lemmas.Nat.Bits.{bit_at_cat_low, bit_at_cat_high}
use Rattle.std.proofs.lemmas.List.{get_or_past}
use Rattle.std.proofs.lemmas.List.FromFn.{get_or-map-range_with_len, length-map-range_with_len}
use Rattle.path_graph.specs.declared.set_bits.SetBits.{SetBits}
use Rattle.path_graph.specs.SetBits.{has_set, IsSubset, IsWhole, word_of, set_of, all_below, is_subset}
use Rattle.path_graph.proofs.SetBitsLemmas.{bit_for, member_bit, bit_member, member-below, same_tests, same_set}

word_of-below : (test : ℕ → Bool) (n : ℕ) → word_of test n < 2 ^ n
unfolding word_of
word_of-below test zero = omega (arith, pow_pos 0)
word_of-below test (suc n) =
    let rest = word_of-below test n in
    let twice : 2 ^ suc n ≡ 2 ^ n * 2 = pow-suc 2 n in
    cond_both (test n) 1 0 (λ (b : ℕ). b * 2 ^ n + word_of test n < 2 ^ suc n) (λ e. omega arith) (λ e. omega arith)

lowest : (b : Bool) → bit_at (cond b 1 0) 0 ≡ cond b 1 0
lowest true = refl
lowest false = refl

bit_at-word_of : (test : ℕ → Bool) (n i : ℕ) → i < n → bit_at (word_of test n) i ≡ cond (test i) 1 0
unfolding word_of
bit_at-word_of test zero i below = absurd (omega arith)
bit_at-word_of test (suc n) i below = elim (cases_lt i n) [
  | inl low ↦ bit_at_cat_low (cond (test n) 1 0) n (word_of test n) i low ∙ bit_at-word_of test n i low
  | inr high ↦
      let same : i ≡ n = omega arith in
      let none : n - n ≡ 0 = omega arith in
      rw same (bit_at_cat_high (cond (test n) 1 0) n (word_of test n) n (word_of-below test n) (omega arith)
      ∙ (ap (λ (k : ℕ). bit_at (cond (test n) 1 0) k) none ∙ lowest (test n)))
]

word_at : (test : ℕ → Bool) (j : ℕ) → j < 8 → get_or (set_of test).bits j 0 ≡ word_of (λ i. test (j * 64 + i)) 64
unfolding set_of
word_at test j below = get_or-map-range_with_len (λ (k : ℕ). word_of (λ i. test (k * 64 + i)) 64) 0 8 j j 0 below (omega arith)

bit_at_made : (test : ℕ → Bool) (s : ℕ) → s < 512 → bit_for (set_of test) s ≡ cond (test s) 1 0
bit_at_made test s below =
    let place : s / 64 * 64 + s % 64 ≡ s = omega arith in
    ap (λ (x : ℕ). bit_at x (s % 64)) (word_at test (s / 64) (omega arith))
    ∙ (bit_at-word_of (λ i. test (s / 64 * 64 + i)) 64 (s % 64) (omega arith)
    ∙ ap (λ (k : ℕ). cond (test k) 1 0) place)

true_from_one : (b : Bool) → ◌≡◌ {A = ℕ} (cond b 1 0) 1 → b ≡ true
true_from_one true e = refl
true_from_one false e = absurd (omega arith)

-- its members are the numbers below 512 that pass the test
pub has_set-set_of : (test : ℕ → Bool) (s : ℕ) → has_set (set_of test) s ≡ (nat_lt s 512 && test s)
has_set-set_of test s = same_tests (has_set (set_of test) s) (nat_lt s 512 && test s)
    (λ m. let here = member_bit (set_of test) s m in
    and_from (nat_lt s 512) (test s) (lt-ltb s 512 here.0) (true_from_one (test s) (sym (bit_at_made test s here.0) ∙ here.1)))
    (λ m. let parts = and_parts (nat_lt s 512) (test s) m in
    let below = ltb-true s 512 parts.0 in
    bit_member (set_of test) s below (bit_at_made test s below ∙ cond-true (test s) 1 0 parts.1))

length_made : (test : ℕ → Bool) → length (set_of test).bits ≡ 8
unfolding set_of
length_made test = length-map-range_with_len (λ (k : ℕ). word_of (λ i. test (k * 64 + i)) 64) 0 8

pub set_of-whole : (test : ℕ → Bool) → IsWhole (set_of test)
set_of-whole test = (
  length_made test,
  λ k. elim (cases_lt k 8) [
    | inl l ↦ subst (λ (x : ℕ). x < 2 ^ 64) (sym (word_at test k l)) (word_of-below (λ i. test (k * 64 + i)) 64)
    | inr l ↦ subst (λ (x : ℕ). x < 2 ^ 64) (sym (get_or_past (set_of test).bits k 0 (omega (arith, length_made test, l)))) (omega (arith, pow_pos 64))
  ],
)

-- a set of eight words is made by the test of its members
pub set_of-same : (a : SetBits) (test : ℕ → Bool) → IsWhole a → ((s : ℕ) → s < 512 → has_set a s ≡ test s) → a ≡ set_of test
set_of-same a test whole each = same_set a (set_of test) whole (set_of-whole test)
    (λ s. same_tests (has_set a s) (has_set (set_of test) s)
    (λ m. let below = member-below a s m in
    has_set-set_of test s ∙ and_from (nat_lt s 512) (test s) (lt-ltb s 512 below) (sym (each s below) ∙ m))
    (λ m. let parts = and_parts (nat_lt s 512) (test s) (sym (has_set-set_of test s) ∙ m) in
    each s (ltb-true s 512 parts.0) ∙ parts.1))

implied : (x y : Bool) → Decides (not x || y) (x ≡ true → y ≡ true)
implied true true = (λ e t. refl, λ h. refl)
implied true false = (λ e t. cc, λ h. h refl)
implied false y = (λ e t. cc, λ h. refl)

all_below-decides : (test : ℕ → Bool) (P : ℕ → Type 0) → ((k : ℕ) → Decides (test k) (P k)) → (n : ℕ) → Decides (all_below test n) ((k : ℕ) → k < n → P k)
unfolding all_below
all_below-decides test P each = Decides-below_and test P (all_below test) each refl (λ n. refl)

-- the test of inclusion
pub is_subset-decides : (a b : SetBits) → Decides (is_subset a b) (IsSubset a b)
unfolding is_subset
is_subset-decides a b =
    Decides-like (is_subset a b)
    (λ (h : (k : ℕ) → k < 512 → has_set a k ≡ true → has_set b k ≡ true) k m. h k (member-below a k m) m)
    (λ h k l m. h k m)
    (all_below-decides (λ s. not (has_set a s) || has_set b s) (λ s. has_set a s ≡ true → has_set b s ≡ true) (λ s. implied (has_set a s) (has_set b s)) 512)
