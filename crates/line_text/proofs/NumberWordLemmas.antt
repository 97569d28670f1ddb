-- Words that are numbers, and words that are not, in printed form.
use Rattle.std.proofs.Common.{◌≡◌, ℕ, zero, suc, ◌+◌, ◌*◌, ◌%◌, ◌/◌, ◌^◌, ◌<◌, ◌≤◌, ℤ, pos, negsuc, unsigned_abs, Bool, true, false, nat_le, nat_lt, List, [], ◌∷◌, Option, None, Some, refl, ap, sym, ◌∙◌, arith, length, if◌then◌else◌}
use Rattle.std.specs.Prelude.{◌==◌}
use native.Mathlib.Numerals.{unary_clauses}
use Rattle.std.specs.List.{list_all}
use lib.Signed.{mag}
use Rattle.std.specs.Option.{option_map_or}
use Rattle.std.specs.Fmt.{decimal, signed_decimal, digits, digits_onto, digit_glyph}
use Rattle.std.proofs.lemmas.Bool.Decides.{nat_tests}
use Rattle.std.proofs.lemmas.Fmt.{decimal_is_IsNumeral_wide, length-decimal-le_wide}
use Rattle.std.specs.Str.Parse.{digits_value as base_value}
use Rattle.vrp_lex.specs.Text.{is_digit, is_some_bytes, digits_value, number_of}
use Rattle.line_text.specs.Spelling.{in_printed_form}
use Rattle.line_text.proofs.PrintedWordLemmas.{number_of-digits, number_of-signed}

-- what is written of a number is decimal digits, at least one
glyph_is_digit : (d : ℕ) → d < 10 → is_digit (digit_glyph false d) ≡ true
glyph_is_digit d h =
    let small : nat_lt d 10 ≡ true = grind (arith, nat_tests, h) in
    let low : nat_le 48 (48 + d) ≡ true = grind (arith, nat_tests) in
    let high : nat_le (48 + d) 57 ≡ true = grind (arith, nat_tests, h) in
    rw (small, low, high) refl

in_either : (P : List ℕ → Type 0) (b : Bool) (xs ys : List ℕ) → P xs → P ys → P (if b then xs else ys)
in_either P true xs ys p q = p
in_either P false xs ys p q = q

onto_digits : (k n : ℕ) (acc : List ℕ) → list_all is_digit acc ≡ true → list_all is_digit (digits_onto k 10 false n acc) ≡ true
onto_digits zero n acc h = h
onto_digits (suc k) n acc h =
    let more : List ℕ = digit_glyph false (n % 10) ∷ acc in
    let first : is_digit (digit_glyph false (n % 10)) ≡ true = glyph_is_digit (n % 10) (omega arith) in
    let all : list_all is_digit more ≡ true = rw (first, h) refl in
    in_either (λ ds. list_all is_digit ds ≡ true) (n / 10 == 0) more (digits_onto k 10 false (n / 10) more) all (onto_digits k (n / 10) more all)

onto_grows : (k n : ℕ) (acc : List ℕ) → length acc ≤ length (digits_onto k 10 false n acc)
onto_grows zero n acc = omega arith
onto_grows (suc k) n acc =
    let more : List ℕ = digit_glyph false (n % 10) ∷ acc in
    let h = onto_grows k (n / 10) more in
    in_either (λ ds. length acc ≤ length ds) (n / 10 == 0) more (digits_onto k 10 false (n / 10) more) (omega arith) (omega (arith, h))

onto_some : (k n : ℕ) (acc : List ℕ) → 1 + length acc ≤ length (digits_onto (suc k) 10 false n acc)
onto_some k n acc =
    let more : List ℕ = digit_glyph false (n % 10) ∷ acc in
    let h = onto_grows k (n / 10) more in
    in_either (λ ds. 1 + length acc ≤ length ds) (n / 10 == 0) more (digits_onto k 10 false (n / 10) more) (omega arith) (omega (arith, h))

more_left : (test : Bool) (n p : ℕ) (xs ys : List ℕ) → (n / 10 == 0) ≡ test → 10 * p ≤ n → 1 ≤ p → (if test then xs else ys) ≡ ys
more_left false n p xs ys is big some = refl
more_left true n p xs ys is big some = let none : n / 10 ≡ 0 = grind (arith, nat_tests, is) in absurd (omega (arith, none, big, some))

-- a number of more than j digits is written with more than j digits, where there is room for them
onto_long : (j p k n : ℕ) (acc : List ℕ) → p ≡ 10 ^ j → 1 ≤ p → p ≤ n → j < k → j + 1 + length acc ≤ length (digits_onto k 10 false n acc)
onto_long j p zero n acc is some big room = absurd (omega (arith, room))
onto_long zero p (suc k) n acc is some big room = let h = onto_some k n acc in omega (arith, h)
onto_long (suc j) p (suc k) n acc is some big room =
    let more : List ℕ = digit_glyph false (n % 10) ∷ acc in
    let q : ℕ = 10 ^ j in
    let next : p ≡ q * 10 = simp unary_clauses at is in
    let power : p ≡ 10 * q = omega (arith, next) in
    let tenth : 1 ≤ q = omega (arith, power, some) in
    let below : q ≤ n / 10 = omega (arith, power, big) in
    let h = onto_long j q k (n / 10) more refl tenth below (omega (arith, room)) in
    let past = more_left (n / 10 == 0) n q more (digits_onto k 10 false (n / 10) more) refl (omega (arith, power, big)) tenth in
    rw past (omega (arith, h))

pub decimal_digits : (n : ℕ) → list_all is_digit (decimal n) ≡ true
unfolding digits
decimal_digits n = onto_digits 64 n [] refl

decimal_long : (n : ℕ) → 10 ^ 60 ≤ n → 61 ≤ length (decimal n)
unfolding digits
decimal_long n big = onto_long 60 (10 ^ 60) 64 n [] refl (omega arith) big (omega arith)

decimal_some : (n : ℕ) → 1 ≤ length (decimal n)
unfolding digits
decimal_some n = onto_some 63 n []

-- a word of digits is no word of a number below 0
no_minus_first : (n m : ℕ) → decimal n ≡ 45 ∷ decimal m → ⊥
no_minus_first n m e = with_digits (decimal n) (decimal_digits n) e
  where
    with_digits : (ds : List ℕ) → list_all is_digit ds ≡ true → ds ≡ 45 ∷ decimal m → ⊥
    with_digits ds all e = let all' = rw e at all in cc

-- numbers of at most 64 digits are written alike only where they are equal
decimal_once : (m n : ℕ) → m < 10 ^ 64 → n < 10 ^ 64 → decimal m ≡ decimal n → m ≡ n
decimal_once m n small few e =
    sym (decimal_is_IsNumeral_wide m small).1 ∙ (ap (λ (ds : List ℕ). base_value 10 ds) e ∙ (decimal_is_IsNumeral_wide n few).1)

-- so are all numbers, if one of them is within this bound
pub decimal_same : (m n : ℕ) → n < 10 ^ 40 → decimal m ≡ decimal n → m ≡ n
decimal_same m n few e = by_size (nat_lt m (10 ^ 60)) refl
  where
    low : length (decimal n) ≤ 40
    low = length-decimal-le_wide 40 n (omega arith) few (omega (arith, few))

    by_size : (b : Bool) → nat_lt m (10 ^ 60) ≡ b → m ≡ n
    by_size true is =
        let small : m < 10 ^ 60 = grind (arith, nat_tests, is) in
        decimal_once m n (omega (arith, small)) (omega (arith, few)) e
    by_size false is =
        let big : 10 ^ 60 ≤ m = grind (arith, nat_tests, is) in
        let long : 61 ≤ length (decimal m) = decimal_long m big in
        let same = ap (λ (ds : List ℕ). length ds) e in
        absurd (omega (arith, low, long, same))

signed_same : (y z : ℤ) → unsigned_abs z < 10 ^ 40 → signed_decimal y ≡ signed_decimal z → y ≡ z
signed_same (pos m) (pos n) few e = ap (λ k. pos k) (decimal_same m n few e)
signed_same (pos m) (negsuc n) few e = absurd (no_minus_first m (suc n) e)
signed_same (negsuc m) (pos n) few e = absurd (no_minus_first n (suc m) (sym e))
signed_same (negsuc m) (negsuc n) few e =
    let digits : decimal (suc m) ≡ decimal (suc n) = cc in
    let same = decimal_same (suc m) (suc n) few digits in
    ap (λ k. negsuc k) (omega (arith, same))

-- a word is a number where its printed form is that of the number
pub printed_is : (w : List ℕ) (z : ℤ) → number_of w ≡ Some z → in_printed_form w ≡ signed_decimal z
printed_is w z is = ap (λ (o : Option ℤ). option_map_or signed_decimal o w) is

pub printed_natural : (w : List ℕ) (n : ℕ) → number_of w ≡ Some (pos n) → in_printed_form w ≡ decimal n
printed_natural w n is = printed_is w (pos n) is

pub number_is : (w : List ℕ) (z : ℤ) → unsigned_abs z < 10 ^ 40 → in_printed_form w ≡ signed_decimal z → number_of w ≡ Some z
number_is w z few e = by_number (number_of w) refl e
  where
    small : (z : ℤ) → unsigned_abs z < 10 ^ 40 → mag z < 10 ^ 40
    small (pos n) h = omega (arith, h)
    small (negsuc n) h = omega (arith, h)

    by_number : (o : Option ℤ) → number_of w ≡ o → option_map_or signed_decimal o w ≡ signed_decimal z → number_of w ≡ Some z
    by_number None is e =
        let clash : ◌≡◌ {A = Option ℤ} None (Some z) = sym is ∙ (ap number_of e ∙ number_of-signed z (small z few)) in
        cc
    by_number (Some y) is e = is ∙ ap (λ k. Some k) (signed_same y z few e)

pub natural_is : (w : List ℕ) (n : ℕ) → n < 10 ^ 40 → in_printed_form w ≡ decimal n → number_of w ≡ Some (pos n)
natural_is w n few e = number_is w (pos n) few e

-- every number is written as a number
some_bytes : (ds : List ℕ) → 1 ≤ length ds → is_some_bytes ds ≡ true
some_bytes [] some = absurd (omega (arith, some))
some_bytes (b ∷ bs) some = refl

some_number : (ds : List ℕ) → 1 ≤ length ds → list_all is_digit ds ≡ true → number_of ds ≡ None → ⊥
some_number ds some all none =
    let told = number_of-digits ds (some_bytes ds some) all in
    let clash : ◌≡◌ {A = Option ℤ} None (Some (pos (digits_value ds))) = sym none ∙ told in
    cc

some_number_below : (ds : List ℕ) → 1 ≤ length ds → list_all is_digit ds ≡ true → number_of (45 ∷ ds) ≡ None → ⊥
some_number_below [] some all none = absurd (omega (arith, some))
some_number_below (b ∷ bs) some all none = let told = rw all at none in cc

written_is_number : (z : ℤ) → number_of (signed_decimal z) ≡ None → ⊥
written_is_number (pos n) none = some_number (decimal n) (decimal_some n) (decimal_digits n) none
written_is_number (negsuc n) none = some_number_below (decimal (suc n)) (decimal_some (suc n)) (decimal_digits (suc n)) none

-- a word that is no number has no other spelling
pub plain_is : (w k : List ℕ) → number_of k ≡ None → in_printed_form w ≡ k → w ≡ k
plain_is w k plain e = by_number (number_of w) e
  where
    by_number : (o : Option ℤ) → option_map_or signed_decimal o w ≡ k → w ≡ k
    by_number None e = e
    by_number (Some z) e = absurd (written_is_number z (ap number_of e ∙ plain))

pub printed_plain : (w k : List ℕ) → number_of k ≡ None → w ≡ k → in_printed_form w ≡ k
printed_plain w k plain e = ap (λ (o : Option ℤ). option_map_or signed_decimal o w) (ap number_of e ∙ plain) ∙ e
