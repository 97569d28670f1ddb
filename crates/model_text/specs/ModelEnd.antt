-- Where the text of a model ends, within a text that goes on behind it.
use Rattle.std.specs.Prelude.{ℕ, ◌+◌, min, List, [], ◌∷◌, length, take, codes, Bool, false, sum_by}
use Rattle.std.specs.List.{position_or_len}
use Rattle.std.specs.Str.{bytes_eq}
use Rattle.vrp_lex.specs.Text.{lines_of, words_of}
use Rattle.line_text.specs.Words.{Words}

abbrev pub begins_with_end : Words → Bool
begins_with_end [] = false
begins_with_end (first ∷ words) = bytes_eq first (codes "end")

abbrev pub is_end_line : List ℕ → Bool
is_end_line line = begins_with_end (words_of line)

-- the lines up to and with the first that has `end` as its first word, or all where none has it
abbrev pub lines_to_end : List (List ℕ) → List (List ℕ)
lines_to_end lines = take (position_or_len is_end_line lines + 1) lines

-- the place after these lines, each with its LF; the last line of a text may have none
abbrev pub model_end : List ℕ → ℕ
model_end text = min (length text) (sum_by (λ line. length line + 1) (lines_to_end (lines_of text)))
