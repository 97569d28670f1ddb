-- Worked rows, proved by computing.
use Rattle.std.proofs.Common.{◌≡◌, pos, negsuc, [], ◌∷◌, ◌++◌, ◌^◌, None, Some, true, false, refl}
use Rattle.std.specs.Prelude.{codes}
use Rattle.vrp_lex.specs.declared.numbers.Amount.TheVariants.{Value, Big, Not}
use Rattle.vrp_lex.specs.Text.{lines_of, words_of, has_bad_byte, number_of}
use Rattle.vrp_lex.specs.Amounts.{amount_of}

-- no byte, no line; a last LF begins no line; an LF alone is an empty line
no_lines : lines_of [] ≡ []
no_lines = refl

two_lines : lines_of (codes "a b" ++ 10 ∷ codes "c") ≡ codes "a b" ∷ codes "c" ∷ []
two_lines = refl

ended_lines : lines_of (codes "a b" ++ 10 ∷ codes "c" ++ 10 ∷ []) ≡ codes "a b" ∷ codes "c" ∷ []
ended_lines = refl

empty_lines : lines_of (10 ∷ 10 ∷ codes "a") ≡ [] ∷ [] ∷ codes "a" ∷ []
empty_lines = refl

-- tab and CR are blanks
blanks : words_of (32 ∷ codes "row" ++ 9 ∷ 32 ∷ codes "-1" ++ 13 ∷ []) ≡ codes "row" ∷ codes "-1" ∷ []
blanks = refl

-- a comment begins in the midst of a word too
comment : words_of (codes "var 1#2 3") ≡ codes "var" ∷ codes "1" ∷ []
comment = refl

only_comment : words_of (codes "  # end") ≡ []
only_comment = refl

-- 0xFF is accepted in a comment alone
bad : has_bad_byte (codes "end " ++ 255 ∷ []) ≡ true
bad = refl

bad_in_comment : has_bad_byte (codes "end #" ++ 255 ∷ []) ≡ false
bad_in_comment = refl

last_accepted : has_bad_byte (33 ∷ 126 ∷ 9 ∷ 13 ∷ []) ≡ false
last_accepted = refl

delete : has_bad_byte (127 ∷ []) ≡ true
delete = refl

-- leading zeros, -0, and words that are no number
leading_zeros : number_of (codes "-007") ≡ Some (negsuc 6)
leading_zeros = refl

minus_zero : number_of (codes "-0") ≡ Some (pos 0)
minus_zero = refl

lone_minus : number_of (codes "-") ≡ None
lone_minus = refl

two_signs : number_of (codes "--1") ≡ None
two_signs = refl

plus : number_of (codes "+1") ≡ None
plus = refl

point : number_of (codes "1.0") ≡ None
point = refl

-- 2^120 and its neighbours
greatest : amount_of (number_of (codes "1329227995784915872903807060280344576")) ≡ Value (pos (2 ^ 120))
greatest = refl

big : amount_of (number_of (codes "1329227995784915872903807060280344577")) ≡ Big
big = refl

below_least : amount_of (number_of (codes "-1329227995784915872903807060280344577")) ≡ Big
below_least = refl

not_number : amount_of (number_of (codes "0x1")) ≡ Not
not_number = refl
