-- Words and lines in printed form, and the words of the lines of a text.
use Rattle.std.specs.Prelude.{◌≡◌, ℕ, List, [], ◌∷◌, ◌++◌, map, filter}
use Rattle.std.specs.List.{flat_map}
use Rattle.std.specs.Option.{option_map_or}
use Rattle.std.specs.Fmt.{signed_decimal}
use Rattle.vrp_lex.specs.Text.{lines_of, words_of, number_of}
use Rattle.line_text.specs.Words.{Words, are_some_words}

-- a number in printed form: without leading zeros, and 0 without `-`; any other word stays as it is
abbrev pub in_printed_form : List ℕ → List ℕ
in_printed_form word = option_map_or signed_decimal (number_of word) word

-- the lines of a text that have words, as their words
abbrev pub lines_with_words : List ℕ → List Words
lines_with_words text = filter are_some_words (map words_of (lines_of text))

-- a word, more words with one blank before each, and LF
abbrev pub line : List ℕ → List (List ℕ) → List ℕ
line first more = first ++ flat_map (λ word. 32 ∷ word) more ++ 10 ∷ []

abbrev pub line_of_words : Words → List ℕ
line_of_words [] = 10 ∷ []
line_of_words (first ∷ words) = line first words

-- the text of lines of words
abbrev pub text_of_lines : List Words → List ℕ
text_of_lines lines = flat_map line_of_words lines

-- A text has the printed form: it is no more than its words, with one blank between the words of a line and LF after each line,
-- and its numbers have printed form. So it has no comment, no line without words, and no other blank.
pub record IsPrintedText (text : List ℕ) : Type 0 where
  pub spaced : text ≡ text_of_lines (lines_with_words text)
  pub numbers : map (map in_printed_form) (lines_with_words text) ≡ lines_with_words text
