-- Laws of sets of packing sets, by their members.
use Rattle.std.proofs.Common.{◌≡◌, ◌≢◌, ℕ, ◌+◌, ◌*◌, ◌/◌, ◌%◌, ◌^◌, ◌<◌, ◌≤◌, ◌==◌, ◌&&◌, ◌||◌, nat_lt, Bool, true, false, inl, inr, List, [], ◌∷◌, length, get_or, set, zero, suc, min, refl, sym, ◌∙◌, ap, subst, arith, below_more, w64}
use Rattle.std.proofs.lemmas.Bool.{cases_lt, cases_eq, lt-ltb, le-ltb, ltb-true, eqb-true, eq-eqb, ne_eqb, and_parts, and_from, or_right}
use Rattle.std.proofs.lemmas.List.{get_or_past, length-set, get_or-set_same, get_or-set_other}
use Rattle.std.proofs.lemmas.Grind.{same_number_lists, get_or-set_at}
use Rattle.std.proofs.lemmas.Nat.{and_le_l, or_lt, mod_below, pow_pos}
use Rattle.std.proofs.lemmas.Nat.Bits.{bit_at_and, bit_at-zero, bit_at-lt, bit_at_set_same, bit_at_set_other, shr_and_one, same_from_bits_below}
use Rattle.std.specs.Prelude.{bit_and, bit_or}
use Rattle.std.specs.Int.{bit_at}
use Rattle.path_graph.specs.declared.set_bits.SetBits.{SetBits}
use Rattle.path_graph.specs.SetBits.{has_set, IsWith, IsMeet, IsSubset, IsWhole}

-- the bit that stands for a number
abbrev pub bit_for : SetBits → ℕ → ℕ
bit_for sets s = bit_at (get_or sets.bits (s / 64) 0) (s % 64)

-- a test that is true exactly where another is, is that test
pub same_tests : (x y : Bool) → (x ≡ true → y ≡ true) → (y ≡ true → x ≡ true) → x ≡ y
same_tests true y to from = sym (to refl)
same_tests false true to from = from refl
same_tests false false to from = refl

or_none : (x : Bool) → x ≡ (x || false)
or_none true = refl
or_none false = refl

pub member_bit : (sets : SetBits) (s : ℕ) → has_set sets s ≡ true → (s < 512) × (bit_for sets s ≡ 1)
unfolding has_set
member_bit sets s h =
    let parts = and_parts (nat_lt s 512) (bit_for sets s == 1) h in
    (ltb-true s 512 parts.0, eqb-true (bit_for sets s) 1 parts.1)

pub bit_member : (sets : SetBits) (s : ℕ) → s < 512 → bit_for sets s ≡ 1 → has_set sets s ≡ true
unfolding has_set
bit_member sets s below set =
    and_from (nat_lt s 512) (bit_for sets s == 1) (lt-ltb s 512 below) (eq-eqb (bit_for sets s) 1 set)

-- no member is 512 or more
pub member-below : (sets : SetBits) (s : ℕ) → has_set sets s ≡ true → s < 512
member-below sets s h = (member_bit sets s h).0

same_from_bit : (a b : SetBits) (s : ℕ) → (s < 512 → bit_for a s ≡ bit_for b s) → has_set a s ≡ has_set b s
same_from_bit a b s h =
    same_tests (has_set a s) (has_set b s)
    (λ m. let at = member_bit a s m in bit_member b s at.0 (sym (h at.0) ∙ at.1))
    (λ m. let at = member_bit b s m in bit_member a s at.0 (h at.0 ∙ at.1))

abbrev no_words : List ℕ
no_words = 0 ∷ 0 ∷ 0 ∷ 0 ∷ 0 ∷ 0 ∷ 0 ∷ 0 ∷ []

no_words-at : (j : ℕ) → get_or no_words j 0 ≡ 0
no_words-at zero = refl
no_words-at (suc zero) = refl
no_words-at (suc (suc zero)) = refl
no_words-at (suc (suc (suc zero))) = refl
no_words-at (suc (suc (suc (suc zero)))) = refl
no_words-at (suc (suc (suc (suc (suc zero))))) = refl
no_words-at (suc (suc (suc (suc (suc (suc zero)))))) = refl
no_words-at (suc (suc (suc (suc (suc (suc (suc zero))))))) = refl
no_words-at (suc (suc (suc (suc (suc (suc (suc (suc j)))))))) = refl

pub has_none : (k : ℕ) → has_set (record { bits = no_words }) k ≡ false
has_none k =
    let sets : SetBits = record { bits = no_words } in
    same_tests (has_set sets k) false
    (λ m. absurd (let zero_bit : bit_for sets k ≡ 0 = ap (λ (x : ℕ). bit_at x (k % 64)) (no_words-at (k / 64)) ∙ bit_at-zero (k % 64) in
    omega (arith, (member_bit sets k m).1)))
    (λ m. cc)

pub has_below : (sets : SetBits) (s : ℕ) → s < 512 → (bit_and (get_or sets.bits (s / 64) 0 / 2 ^ (s % 64)) 1 == 1) ≡ has_set sets s
unfolding has_set
has_below sets s below = rw (shr_and_one (get_or sets.bits (s / 64) 0) (s % 64), lt-ltb s 512 below) refl

pub has_past : (sets : SetBits) (s : ℕ) → 512 ≤ s → nat_lt s 512 ≡ has_set sets s
unfolding has_set
has_past sets s past = rw (le-ltb s 512 past) refl

module _ (sets : SetBits) (s : ℕ) (below : s < 512) (whole : length sets.bits ≡ 8) where
  abbrev grown : SetBits
  grown = record { bits = set sets.bits (s / 64) (bit_or (get_or sets.bits (s / 64) 0) (1 * 2 ^ (s % 64) % 2 ^ 64)) }

  grown-same : bit_for grown s ≡ 1
  grown-same =
      let within : s / 64 < length sets.bits = omega arith in
      ap (λ (x : ℕ). bit_at x (s % 64)) (get_or-set_same sets.bits (s / 64) (bit_or (get_or sets.bits (s / 64) 0) (1 * 2 ^ (s % 64) % 2 ^ 64)) 0 within)
      ∙ bit_at_set_same w64 (get_or sets.bits (s / 64) 0) (s % 64) (omega arith)

  grown-other : (k : ℕ) → k ≢ s → bit_for grown k ≡ bit_for sets k
  grown-other k other = elim (cases_eq (k / 64) (s / 64)) [
    | inl word ↦
        let within : k / 64 < length sets.bits = omega arith in
        let place : k % 64 ≢ s % 64 = omega arith in
        rw word (ap (λ (x : ℕ). bit_at x (k % 64)) (get_or-set_same sets.bits (s / 64) (bit_or (get_or sets.bits (s / 64) 0) (1 * 2 ^ (s % 64) % 2 ^ 64)) 0 (omega arith))
        ∙ bit_at_set_other w64 (get_or sets.bits (s / 64) 0) (s % 64) (omega arith) (k % 64) place)
    | inr word ↦ ap (λ (x : ℕ). bit_at x (k % 64)) (get_or-set_other sets.bits (s / 64) (k / 64) (bit_or (get_or sets.bits (s / 64) 0) (1 * 2 ^ (s % 64) % 2 ^ 64)) 0 word)
  ]

  -- with one more member
  pub has_set-with : IsWith sets s grown
  has_set-with k = elim (cases_eq k s) [
    | inl same ↦ rw same (bit_member grown s below grown-same ∙ sym (or_right (has_set sets s) (s == s) (eq-eqb s s refl)))
    | inr other ↦ rw (ne_eqb k s other) (same_from_bit grown sets k (λ l. grown-other k other) ∙ or_none (has_set sets k))
  ]

-- the members of both
pub has_set-meet : (a b both : SetBits) → ((j : ℕ) → j < 8 → get_or both.bits j 0 ≡ bit_and (get_or a.bits j 0) (get_or b.bits j 0))
    → IsMeet a b both
has_set-meet a b both each k =
    let at : k < 512 → bit_for both k ≡ min (bit_for a k) (bit_for b k) =
    λ l. ap (λ (x : ℕ). bit_at x (k % 64)) (each (k / 64) (omega arith)) ∙ bit_at_and (get_or a.bits (k / 64) 0) (get_or b.bits (k / 64) 0) (k % 64) in
    same_tests (has_set both k) (has_set a k && has_set b k)
    (λ m. let here = member_bit both k m in
    let bits = at here.0 in
    let low = bit_at-lt (get_or a.bits (k / 64) 0) (k % 64) in
    let low_b = bit_at-lt (get_or b.bits (k / 64) 0) (k % 64) in
    and_from (has_set a k) (has_set b k) (bit_member a k here.0 (omega arith)) (bit_member b k here.0 (omega arith)))
    (λ m. let parts = and_parts (has_set a k) (has_set b k) m in
    let left = member_bit a k parts.0 in
    let right = member_bit b k parts.1 in
    bit_member both k left.0 (at left.0 ∙ rw (left.1, right.1) refl))

same_bit : (a b : SetBits) (s : ℕ) → s < 512 → has_set a s ≡ has_set b s → bit_for a s ≡ bit_for b s
same_bit a b s below e =
    let low = bit_at-lt (get_or a.bits (s / 64) 0) (s % 64) in
    let low_b = bit_at-lt (get_or b.bits (s / 64) 0) (s % 64) in
    elim (cases_eq (bit_for a s) 1) [
      | inl one ↦ one ∙ sym (member_bit b s (sym e ∙ bit_member a s below one)).1
      | inr none ↦ elim (cases_eq (bit_for b s) 1) [
        | inl one ↦ absurd (none (member_bit a s (e ∙ bit_member b s below one)).1)
        | inr other ↦ omega arith
      ]
    ]

-- two sets with the same members are equal
pub same_set : (a b : SetBits) → IsWhole a → IsWhole b → ((s : ℕ) → has_set a s ≡ has_set b s) → a ≡ b
same_set a b p q each =
    let words : (j : ℕ) → j < length a.bits → get_or a.bits j 0 ≡ get_or b.bits j 0 =
    λ j l. same_from_bits_below 64 (get_or a.bits j 0) (get_or b.bits j 0) (p.1 j) (q.1 j)
    (λ i small.
    let s : ℕ = j * 64 + i in
    let word : s / 64 ≡ j = omega arith in
    let place : s % 64 ≡ i = omega arith in
    let bits = same_bit a b s (omega arith) (each s) in
    rw (word, place) at bits) in
    let lists = same_number_lists a.bits b.bits (p.0 ∙ sym q.0) words in
    ap (λ (xs : List ℕ). let set : SetBits = record { bits = xs } in set) lists

-- a set is within another where each word is
pub subset_by_words : (a b : SetBits) → ((j : ℕ) → j < 8 → bit_and (get_or a.bits j 0) (get_or b.bits j 0) ≡ get_or a.bits j 0) → IsSubset a b
subset_by_words a b each s member =
    let here = member_bit a s member in
    let both : bit_for a s ≡ min (bit_for a s) (bit_for b s) =
    ap (λ (x : ℕ). bit_at x (s % 64)) (sym (each (s / 64) (omega arith))) ∙ bit_at_and (get_or a.bits (s / 64) 0) (get_or b.bits (s / 64) 0) (s % 64) in
    let low = bit_at-lt (get_or b.bits (s / 64) 0) (s % 64) in
    bit_member b s here.0 (omega arith)

pub words_of_subset : (a b : SetBits) (j : ℕ) → j < 8 → get_or a.bits j 0 < 2 ^ 64 → IsSubset a b → bit_and (get_or a.bits j 0) (get_or b.bits j 0) ≡ get_or a.bits j 0
words_of_subset a b j below fits sub =
    same_from_bits_below 64 (bit_and (get_or a.bits j 0) (get_or b.bits j 0)) (get_or a.bits j 0) (omega (arith, and_le_l (get_or a.bits j 0) (get_or b.bits j 0))) fits
    (λ i small.
    let s : ℕ = j * 64 + i in
    let word : s / 64 ≡ j = omega arith in
    let place : s % 64 ≡ i = omega arith in
    let low = bit_at-lt (get_or a.bits j 0) i in
    bit_at_and (get_or a.bits j 0) (get_or b.bits j 0) i
    ∙ elim (cases_eq (bit_at (get_or a.bits j 0) i) 1) [
      | inl one ↦
          let in_b : bit_for b s ≡ 1 = (member_bit b s (sub s (bit_member a s (omega arith) (rw (word, place) one)))).1 in
          let at : bit_at (get_or b.bits j 0) i ≡ 1 = rw (word, place) at in_b in
          omega arith
      | inr other ↦ omega arith
    ])

-- eight words, each of 64 bits
pub whole_of_words : (bits : List ℕ) → length bits ≡ 8 → ((j : ℕ) → j < 8 → get_or bits j 0 < 2 ^ 64) → IsWhole (record { bits = bits })
whole_of_words bits count each = (
  count,
  λ k. elim (cases_lt k 8) [
    | inl l ↦ each k l
    | inr l ↦ subst (λ (x : ℕ). x < 2 ^ 64) (sym (get_or_past bits k 0 (omega (arith, count, l)))) (omega (arith, pow_pos 64))
  ],
)

-- a word with one bit more stays one of 64 bits
pub with-whole : (sets : SetBits) (s : ℕ) → IsWhole sets
    → IsWhole (record { bits = set sets.bits (s / 64) (bit_or (get_or sets.bits (s / 64) 0) (1 * 2 ^ (s % 64) % 2 ^ 64)) })
with-whole sets s whole =
    let word : ℕ = bit_or (get_or sets.bits (s / 64) 0) (1 * 2 ^ (s % 64) % 2 ^ 64) in
    let fits : word < 2 ^ 64 = or_lt 64 (get_or sets.bits (s / 64) 0) (1 * 2 ^ (s % 64) % 2 ^ 64) (whole.1 (s / 64)) (mod_below (1 * 2 ^ (s % 64)) (2 ^ 64) (pow_pos 64)) in (
      length-set sets.bits (s / 64) word ∙ whole.0,
      λ k. elim (cases_eq k (s / 64)) [
        | inl same ↦ elim (cases_lt k (length sets.bits)) [
          | inl l ↦ subst (λ (x : ℕ). x < 2 ^ 64) (sym (get_or-set_at sets.bits (s / 64) k word 0 same (omega arith))) fits
          | inr l ↦ subst (λ (x : ℕ). x < 2 ^ 64) (sym (get_or_past (set sets.bits (s / 64) word) k 0 (omega (arith, length-set sets.bits (s / 64) word, l)))) (omega (arith, pow_pos 64))
        ]
        | inr other ↦ subst (λ (x : ℕ). x < 2 ^ 64) (sym (get_or-set_other sets.bits (s / 64) k word 0 other)) (whole.1 k)
      ],
    )

-- what holds of each word before k, and of the one that is put at k, holds before k + 1
pub words_after_set : (P : ℕ → ℕ → Type 0) (bits : List ℕ) (k word : ℕ) → k < length bits → ((j : ℕ) → j < k → P j (get_or bits j 0)) → P k word
    → (j : ℕ) → j < k + 1 → P j (get_or (set bits k word) j 0)
words_after_set P bits k word within old new =
    below_more (λ (j : ℕ). P j (get_or (set bits k word) j 0)) k
    (λ j l. subst (P j) (sym (get_or-set_other bits k j word 0 (λ e. omega arith))) (old j l))
    (subst (P k) (sym (get_or-set_same bits k word 0 within)) new)
