-- Worked rows of words, lines and printed texts, proved by computing.
use Rattle.std.proofs.Common.{◌≡◌, pos, neg_ℤ, ◌^◌, [], ◌∷◌, refl, true, false, map, Ok, Err}
use Rattle.std.specs.Prelude.{codes}
use Rattle.std.specs.Fmt.{digits, signed_decimal}
use Rattle.line_text.specs.declared.fault.Kind.TheVariants as fault
use Rattle.line_text.specs.Words.{number_in, natural_in, known_below, is_version, version_wanted}
use Rattle.line_text.specs.Spelling.{in_printed_form, lines_with_words, text_of_lines, IsPrintedText}

-- 2^112 and its neighbour
widest : number_in (neg_ℤ (pos (2 ^ 112))) (pos (2 ^ 112)) (codes "5192296858534827628530496329220096" ∷ codes "end" ∷ []) ≡ Ok (pos (2 ^ 112), codes "end" ∷ [])
widest = refl

too_wide : number_in (neg_ℤ (pos (2 ^ 112))) (pos (2 ^ 112)) (codes "-5192296858534827628530496329220097" ∷ []) ≡ Err fault.Range
too_wide = refl

widest_printed : signed_decimal (neg_ℤ (pos (2 ^ 112))) ≡ codes "-5192296858534827628530496329220096"
unfolding digits
widest_printed = refl

widest_form : in_printed_form (codes "-005192296858534827628530496329220096") ≡ codes "-5192296858534827628530496329220096"
unfolding digits
widest_form = refl

-- numbers of any length are read, and `-0` is 0
any_length : number_in (pos 0) (pos 1) (codes "0000000000000000000000000000000000000000000000000000000000000000000001" ∷ []) ≡ Ok (pos 1, [])
any_length = refl

minus_zero : in_printed_form (codes "-0") ≡ codes "0"
unfolding digits
minus_zero = refl

other_word : in_printed_form (codes "-") ≡ codes "-"
other_word = refl

-- the order of faults of a word
missing : natural_in 0 4 [] ≡ Err fault.Word
missing = refl

no_number : natural_in 0 4 (codes "1.0" ∷ []) ≡ Err fault.Number
no_number = refl

outside : natural_in 0 4 (codes "5" ∷ []) ≡ Err fault.Range
outside = refl

unknown : known_below 4 (codes "4" ∷ []) ≡ Err fault.Unknown
unknown = refl

-- the words of a version line have one spelling
version : is_version (codes "proof") (codes "1") (codes "proof" ∷ codes "1" ∷ []) ≡ true
version = refl

other_spelling : version_wanted (codes "proof") (codes "1") (codes "proof" ∷ codes "01" ∷ []) ≡ Err fault.Version
other_spelling = refl

more_words : is_version (codes "proof") (codes "1") (codes "proof" ∷ codes "1" ∷ codes "1" ∷ []) ≡ false
more_words = refl

-- a text in printed form, and one that has the same words
printed : IsPrintedText (codes "path 0 1 3\nend\n")
unfolding digits
printed = record { spaced = refl; numbers = refl }

same_words : lines_with_words (codes " path\t0 1 3 # first\r\n\nend") ≡ lines_with_words (codes "path 0 1 3\nend\n")
same_words = refl

printed_again : text_of_lines (map (map in_printed_form) (lines_with_words (codes "path -0 01 3\nend"))) ≡ codes "path 0 1 3\nend\n"
unfolding digits
printed_again = refl
