-- Printed numbers are plain words in printed form.
use Rattle.std.proofs.Common.{rules, ◌≡◌, ℕ, suc, ◌+◌, ◌-◌, ◌*◌, ◌^◌, ◌<◌, ℤ, pos, negsuc, true, false, List, [], ◌∷◌, fold, length, map, None, Some, refl, ap, ◌∙◌, arith}
use Rattle.std.specs.Prelude.{◌==◌, All, codes}
use lib.Signed.{mag}
use Rattle.std.specs.Fmt.{decimal, signed_decimal}
use Rattle.std.specs.List.{list_all}
use Rattle.std.specs.Option.{option_map_or}
use Rattle.std.proofs.lemmas.Bool.{and_parts}
use Rattle.std.proofs.lemmas.Bool.Decides.{nat_tests}
use Rattle.std.proofs.lemmas.List.Elements.{All-nil, All-cons, All-map}
use Rattle.std.proofs.lemmas.List.Folds.{map_fixed}
use Rattle.std.proofs.lemmas.Str.Parse.{IsNumeralModel, numerals_by_fold}
use Rattle.std.proofs.lemmas.Fmt.{decimal_is_IsNumeral_wide}
use Rattle.vrp_lex.specs.Text.{is_digit, is_some_bytes, are_digits, digits_value, number_of}
use Rattle.line_text.specs.Words.{Words, are_some_words}
use Rattle.line_text.specs.Spelling.{in_printed_form}
use Rattle.line_text.proofs.PlainLineLemmas.{is_word_byte, IsPlainWord, IsPlainLine, list_all-weaker}

-- a plain word that is in printed form already
pub record IsPrinted (w : List ℕ) : Type 0 where
  pub plain : IsPlainWord w
  pub stays : in_printed_form w ≡ w

-- a plain word that is no number
pub printed_name : (w : List ℕ) → is_some_bytes w ≡ true → list_all is_word_byte w ≡ true → number_of w ≡ None → IsPrinted w
printed_name w some bytes none = record { plain = record { some = some; bytes = bytes }; stays = ap (λ z. option_map_or signed_decimal z w) none }

digits_word : (b : ℕ) → is_digit b ≡ true → is_word_byte b ≡ true
digits_word b h = grind (arith, nat_tests)

no_minus : (b : ℕ) → is_digit b ≡ true → (b == 45) ≡ false
no_minus b h = grind (arith, nat_tests)

numerals : IsNumeralModel (λ ds. list_all is_digit ds ≡ true) digits_value
numerals = numerals_by_fold _ (search rules) (λ n bs. fold (λ n b. 10 * n + (b - 48)) n bs) (search rules)

some_of : (w : List ℕ) → 0 < length w → is_some_bytes w ≡ true
some_of [] h = absurd (omega arith)
some_of (b ∷ w) h = refl

pub number_of-digits : (ds : List ℕ) → is_some_bytes ds ≡ true → list_all is_digit ds ≡ true → number_of ds ≡ Some (pos (digits_value ds))
number_of-digits [] some digits = cc
number_of-digits (b ∷ bs) some digits =
    let no = no_minus b (and_parts (is_digit b) (list_all is_digit bs) digits).0 in
    rw (no, digits) refl

-- the digits of a number
decimal_some : (n : ℕ) → n < 10 ^ 64 → is_some_bytes (decimal n) ≡ true
decimal_some n small = some_of (decimal n) (decimal_is_IsNumeral_wide n small).0.0

decimal_digits : (n : ℕ) → n < 10 ^ 64 → list_all is_digit (decimal n) ≡ true
decimal_digits n small = numerals.from (decimal n) (decimal_is_IsNumeral_wide n small).0.1

decimal_value : (n : ℕ) → n < 10 ^ 64 → digits_value (decimal n) ≡ n
decimal_value n small =
    let told = decimal_is_IsNumeral_wide n small in
    numerals.same (decimal n) told.0.1 ∙ told.1

decimal_are_digits : (n : ℕ) → n < 10 ^ 64 → are_digits (decimal n) ≡ true
decimal_are_digits n small =
    let some = decimal_some n small in
    let digits = decimal_digits n small in
    rw (some, digits) refl

number_of-decimal : (n : ℕ) → n < 10 ^ 64 → number_of (decimal n) ≡ Some (pos n)
number_of-decimal n small =
    number_of-digits (decimal n) (decimal_some n small) (decimal_digits n small)
    ∙ ap (λ m. Some (pos m)) (decimal_value n small)

number_of-minus : (n : ℕ) → suc n < 10 ^ 64 → number_of (45 ∷ decimal (suc n)) ≡ Some (negsuc n)
number_of-minus n small =
    let digits = decimal_are_digits (suc n) small in
    let value = decimal_value (suc n) small in
    rw (digits, value) refl

-- a printed number of at most 40 digits is that number
pub number_of-signed : (z : ℤ) → mag z < 10 ^ 40 → number_of (signed_decimal z) ≡ Some z
number_of-signed (pos n) small = number_of-decimal n (omega (arith, small))
number_of-signed (negsuc n) small = number_of-minus n (omega (arith, small))

decimal_bytes : (n : ℕ) → n < 10 ^ 64 → list_all is_word_byte (decimal n) ≡ true
decimal_bytes n small = list_all-weaker is_digit is_word_byte digits_word (decimal n) (decimal_digits n small)

signed_plain : (z : ℤ) → mag z < 10 ^ 40 → IsPlainWord (signed_decimal z)
signed_plain (pos n) small =
    let fits : n < 10 ^ 64 = omega (arith, small) in
    record { some = decimal_some n fits; bytes = decimal_bytes n fits }
signed_plain (negsuc n) small = record { some = refl; bytes = decimal_bytes (suc n) (omega (arith, small)) }

pub printed_signed : (z : ℤ) → mag z < 10 ^ 40 → IsPrinted (signed_decimal z)
printed_signed z small =
    record {
      plain = signed_plain z small;
      stays = ap (λ number. option_map_or signed_decimal number (signed_decimal z)) (number_of-signed z small);
    }

pub printed_decimal : (n : ℕ) → n < 10 ^ 40 → IsPrinted (decimal n)
printed_decimal n small = printed_signed (pos n) small

-- one word or more, each printed
pub record IsPrintedLine (words : Words) : Type 0 where
  pub some : are_some_words words ≡ true
  pub each : All IsPrinted words

pub plain_line : (words : Words) → IsPrintedLine words → IsPlainLine words
plain_line words line = record { some = line.some; each = λ k d below. (line.each k d below).plain }

pub line_begins : (name : List ℕ) (words : Words) → IsPrinted name → All IsPrinted words → IsPrintedLine (name ∷ words)
line_begins name words first more = record { some = refl; each = All-cons IsPrinted name words first more }

-- numbers of printed words are in printed form
pub lines_stay : (lines : List Words) → All IsPrintedLine lines → map (map in_printed_form) lines ≡ lines
lines_stay lines printed =
    map_fixed (map in_printed_form) lines (λ k d below. map_fixed in_printed_form _ (λ i e there. ((printed k d below).each i e there).stays))

-- words one by one
pub two : (a b : List ℕ) (words : Words) → IsPrinted a → IsPrinted b → All IsPrinted words → All IsPrinted (a ∷ b ∷ words)
two a b words p q more = All-cons IsPrinted a (b ∷ words) p (All-cons IsPrinted b words q more)

pub printed_numbers : (numbers : List ℕ) → All (λ n. n < 10 ^ 40) numbers → All IsPrinted (map decimal numbers)
printed_numbers numbers small = All-map IsPrinted decimal numbers (λ k d below. printed_decimal _ (small k d below))

-- the last line of a text
pub printed_end : IsPrintedLine (codes "end" ∷ [])
printed_end = line_begins (codes "end") [] (printed_name (codes "end") refl refl refl) (All-nil IsPrinted)
