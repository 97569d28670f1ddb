-- The text of lines of plain words has exactly these lines and words, and no byte that is not accepted.
use Rattle.std.proofs.Common.{◌≡◌, ℕ, Bool, true, false, not, nat_le, List, [], ◌∷◌, ◌++◌, map, refl, ap, ◌∙◌, arith, append_assoc}
use Rattle.std.specs.Prelude.{◌==◌, ◌&&◌, ◌||◌, filter, All}
use Rattle.std.specs.List.{flat_map, list_all, onto_first}
use Rattle.std.proofs.lemmas.Bool.{and_parts}
use Rattle.std.proofs.lemmas.Bool.Decides.{nat_tests}
use Rattle.std.proofs.lemmas.List.Concat.{flat_map-append}
use Rattle.std.proofs.lemmas.List.Elements.{All-head, All-tail, All-map, All-same}
use Rattle.vrp_lex.specs.Text.{lines_of, words_of, has_bad_byte, is_accepted, is_plain, is_some_bytes, ends_word}
use Rattle.vrp_lex.proofs.WordLemmas.{words_of-word}
use Rattle.line_text.specs.Words.{Words, are_some_words}
use Rattle.line_text.specs.Spelling.{line, line_of_words, text_of_lines, lines_with_words}

-- a byte of a word: printed, and not `#`
abbrev pub is_word_byte : ℕ → Bool
is_word_byte b = (nat_le 33 b && nat_le b 126) && not (b == 35)

-- a word of such bytes
pub record IsPlainWord (w : List ℕ) : Type 0 where
  pub some : is_some_bytes w ≡ true
  pub bytes : list_all is_word_byte w ≡ true

-- one word or more
pub record IsPlainLine (words : Words) : Type 0 where
  pub some : are_some_words words ≡ true
  pub each : All IsPlainWord words

-- the words of a line with one blank before each but the first, and then LF
abbrev pub spaced : Words → List ℕ
spaced [] = []
spaced (first ∷ words) = first ++ flat_map (λ word. 32 ∷ word) words

abbrev is_line_byte : ℕ → Bool
is_line_byte b = is_word_byte b || (b == 32)

-- bytes of words and blanks
word_byte_plain : (b : ℕ) → is_word_byte b ≡ true → is_plain b ≡ true
word_byte_plain b h = grind (arith, nat_tests)

word_byte_in_line : (b : ℕ) → is_word_byte b ≡ true → is_line_byte b ≡ true
word_byte_in_line b h = rw h refl

line_byte_accepted : (b : ℕ) → is_line_byte b ≡ true → not (is_accepted b) ≡ false
line_byte_accepted b h = grind (arith, nat_tests)

line_byte_no_lf : (b : ℕ) → is_line_byte b ≡ true → (b == 10) ≡ false
line_byte_no_lf b h = grind (arith, nat_tests)

line_byte_no_hash : (b : ℕ) → is_line_byte b ≡ true → (b == 35) ≡ false
line_byte_no_hash b h = grind (arith, nat_tests)

-- what one test lets pass the other does too
pub list_all-weaker : (p q : ℕ → Bool) → ((b : ℕ) → p b ≡ true → q b ≡ true) → (bs : List ℕ) → list_all p bs ≡ true → list_all q bs ≡ true
list_all-weaker p q implies [] h = refl
list_all-weaker p q implies (b ∷ bs) h =
    let parts = and_parts (p b) (list_all p bs) h in
    rw (implies b parts.0) (list_all-weaker p q implies bs parts.1)

-- bytes of a line up to its LF
line_ends : (bs rest : List ℕ) → list_all is_line_byte bs ≡ true → lines_of (bs ++ 10 ∷ rest) ≡ bs ∷ lines_of rest
line_ends [] rest h = refl
line_ends (b ∷ bs) rest h =
    let parts = and_parts (is_line_byte b) (list_all is_line_byte bs) h in
    let no = line_byte_no_lf b parts.0 in
    rw no (ap (onto_first b) (line_ends bs rest parts.1))

line_accepted : (bs : List ℕ) → list_all is_line_byte bs ≡ true → has_bad_byte bs ≡ false
line_accepted [] h = refl
line_accepted (b ∷ bs) h =
    let parts = and_parts (is_line_byte b) (list_all is_line_byte bs) h in
    let no = line_byte_no_hash b parts.0 in
    let accepted = line_byte_accepted b parts.0 in
    rw (no, accepted) (line_accepted bs parts.1)

-- a word, and more bytes of the line
word_before : (w bs : List ℕ) → IsPlainWord w → list_all is_line_byte bs ≡ true → list_all is_line_byte (w ++ bs) ≡ true
word_before w bs plain more = before w plain.bytes
  where
    before : (w : List ℕ) → list_all is_word_byte w ≡ true → list_all is_line_byte (w ++ bs) ≡ true
    before [] h = more
    before (b ∷ w) h =
        let parts = and_parts (is_word_byte b) (list_all is_word_byte w) h in
        rw (word_byte_in_line b parts.0) (before w parts.1)

further_bytes : (words : Words) → All IsPlainWord words → list_all is_line_byte (flat_map (λ word. 32 ∷ word) words) ≡ true
further_bytes [] plain = refl
further_bytes (w ∷ words) plain =
    word_before w (flat_map (λ word. 32 ∷ word) words) (All-head IsPlainWord w words plain) (further_bytes words (All-tail IsPlainWord w words plain))

spaced_bytes : (words : Words) → All IsPlainWord words → list_all is_line_byte (spaced words) ≡ true
spaced_bytes [] plain = refl
spaced_bytes (w ∷ words) plain =
    word_before w (flat_map (λ word. 32 ∷ word) words) (All-head IsPlainWord w words plain) (further_bytes words (All-tail IsPlainWord w words plain))

-- the words of a line
word_first : (w rest : List ℕ) → IsPlainWord w → ends_word rest ≡ true → words_of (w ++ rest) ≡ w ∷ words_of rest
word_first w rest plain ends = words_of-word w rest (list_all-weaker is_word_byte is_plain word_byte_plain w plain.bytes) plain.some ends

pub words_of-spaced : (words : Words) → All IsPlainWord words → words_of (spaced words) ≡ words
words_of-spaced [] plain = refl
words_of-spaced (w ∷ []) plain = word_first w [] (All-head IsPlainWord w [] plain) refl
words_of-spaced (w ∷ v ∷ words) plain =
    word_first w (32 ∷ (v ++ flat_map (λ word. 32 ∷ word) words)) (All-head IsPlainWord w (v ∷ words) plain) refl
    ∙ ap (λ ws. w ∷ ws) (words_of-spaced (v ∷ words) (All-tail IsPlainWord w (v ∷ words) plain))

pub spaced_accepted : (words : Words) → All IsPlainWord words → has_bad_byte (spaced words) ≡ false
spaced_accepted words plain = line_accepted (spaced words) (spaced_bytes words plain)

-- a line before other lines
pub lines_of-line : (words : Words) (rest : List ℕ) → All IsPlainWord words → lines_of (line_of_words words ++ rest) ≡ spaced words ∷ lines_of rest
lines_of-line [] rest plain = refl
lines_of-line (w ∷ words) rest plain =
    let regroup : line w words ++ rest ≡ spaced (w ∷ words) ++ 10 ∷ rest = simp append_assoc in
    ap lines_of regroup ∙ line_ends (spaced (w ∷ words)) rest (spaced_bytes (w ∷ words) plain)

-- lines of plain words
pub lines_of-text : (lines : List Words) → All IsPlainLine lines → lines_of (text_of_lines lines) ≡ map spaced lines
lines_of-text [] plain = refl
lines_of-text (words ∷ lines) plain =
    lines_of-line words (text_of_lines lines) (All-head IsPlainLine words lines plain).each
    ∙ ap (λ ls. spaced words ∷ ls) (lines_of-text lines (All-tail IsPlainLine words lines plain))

pub text_accepted : (lines : List Words) → All IsPlainLine lines → All (λ line. has_bad_byte line ≡ false) (lines_of (text_of_lines lines))
text_accepted lines plain =
    All-same (λ line. has_bad_byte line ≡ false) (lines_of (text_of_lines lines)) (map spaced lines) (lines_of-text lines plain)
    (All-map (λ line. has_bad_byte line ≡ false) spaced lines (λ k d below. spaced_accepted _ (plain k d below).each))

kept : (lines : List Words) → All IsPlainLine lines → filter are_some_words (map words_of (map spaced lines)) ≡ lines
kept [] plain = refl
kept (words ∷ lines) plain =
    let here = All-head IsPlainLine words lines plain in
    let some = here.some in
    rw (words_of-spaced words here.each, some) (ap (λ ls. words ∷ ls) (kept lines (All-tail IsPlainLine words lines plain)))

pub lines_with_words-text : (lines : List Words) → All IsPlainLine lines → lines_with_words (text_of_lines lines) ≡ lines
lines_with_words-text lines plain =
    ap (λ ls. filter are_some_words (map words_of ls)) (lines_of-text lines plain) ∙ kept lines plain

-- the text of lines that follow one another, and of the lines that each item gives
pub text_of-append : (xs ys : List Words) {a b : List ℕ} → text_of_lines xs ≡ a → text_of_lines ys ≡ b → text_of_lines (xs ++ ys) ≡ a ++ b
text_of-append xs ys e f = flat_map-append line_of_words xs ys ∙ rw (e, f) refl

pub text_of-flat_map : {X : Type 0} (f : X → List Words) (g : X → List ℕ) → ((x : X) → text_of_lines (f x) ≡ g x) → (xs : List X) → text_of_lines (flat_map f xs) ≡ flat_map g xs
text_of-flat_map f g each [] = refl
text_of-flat_map f g each (x ∷ xs) = text_of-append (f x) (flat_map f xs) (each x) (text_of-flat_map f g each xs)
