-- Lines, words and numbers of a text, which is a list of bytes.
use Rattle.std.specs.Prelude.{ℕ, ◌+◌, ◌-◌, ◌*◌, ℤ, pos, neg_ℤ, List, [], ◌∷◌, Bool, true, false, ◌==◌, ◌||◌, ◌&&◌, not, nat_le, if◌then◌else◌, fold, filter, Option, None, Some}
use Rattle.std.specs.List.{list_all, list_any, slice_split, onto_first}

-- the lines, without the LF that ends each; a text that ends with LF has no further line after it
abbrev pub lines_of : List ℕ → List (List ℕ)
lines_of [] = []
lines_of (b ∷ bs) = if b == 10 then [] ∷ lines_of bs else onto_first b (lines_of bs)

-- the blanks are space, tab and CR
abbrev pub is_blank : ℕ → Bool
is_blank b = (b == 32) || (b == 9) || (b == 13)

-- `#` begins a comment, which goes to the end of the line
abbrev pub outside_comment : List ℕ → List ℕ
outside_comment [] = []
outside_comment (b ∷ bs) = if b == 35 then [] else b ∷ outside_comment bs

-- outside a comment a byte must be a blank, or lie in 0x21 to 0x7E
abbrev pub is_accepted : ℕ → Bool
is_accepted b = is_blank b || (nat_le 33 b && nat_le b 126)

abbrev pub has_bad_byte : List ℕ → Bool
has_bad_byte line = list_any (λ b. not (is_accepted b)) (outside_comment line)

abbrev pub is_some_bytes : List ℕ → Bool
is_some_bytes [] = false
is_some_bytes (b ∷ bs) = true

-- the words of a line: what stands between blanks outside the comment, where that is not empty
abbrev pub words_of : List ℕ → List (List ℕ)
words_of line = filter is_some_bytes (slice_split is_blank (outside_comment line))

-- a byte that belongs to a word where it stands outside a comment
abbrev pub is_plain : ℕ → Bool
is_plain b = not (is_blank b) && not (b == 35)

-- a word that stands before these bytes ends there
abbrev pub ends_word : List ℕ → Bool
ends_word [] = true
ends_word (b ∷ bs) = not (is_plain b)

abbrev pub is_digit : ℕ → Bool
is_digit b = nat_le 48 b && nat_le b 57

-- one or more decimal digits
abbrev pub are_digits : List ℕ → Bool
are_digits bs = is_some_bytes bs && list_all is_digit bs

-- the number that decimal digits stand for; leading zeros change nothing
abbrev pub digits_value : List ℕ → ℕ
digits_value bs = fold (λ n b. 10 * n + (b - 48)) 0 bs

-- the number that a word is: decimal digits, with `-` before them or not; none where it is no number
abbrev pub number_of : List ℕ → Option ℤ
number_of [] = None
number_of (b ∷ bs) =
    if b == 45
    then (if are_digits bs then Some (neg_ℤ (pos (digits_value bs))) else None)
    else (if are_digits (b ∷ bs) then Some (pos (digits_value (b ∷ bs))) else None)
