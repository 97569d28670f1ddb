-- How the lines of a text are read one after the other, and the first fault of a text.
use Rattle.std.specs.Prelude.{ℕ, ◌+◌, List, [], ◌∷◌, Bool, ◌==◌, if◌then◌else◌, count_by, Result, Ok, Err}
use Rattle.std.specs.Str.{bytes_eq}
use Rattle.vrp_lex.specs.Text.{lines_of, words_of, has_bad_byte}
use Rattle.line_text.specs.declared.fault.Kind.{Kind}
use Rattle.line_text.specs.declared.fault.Kind.TheVariants as fault
use Rattle.line_text.specs.declared.fault.TextFault.{TextFault}
use Rattle.line_text.specs.Words.{Words, Wants, ◌>>=◌, give, word}

-- what is told before the first line, whether the end is read, and what a line with words tells
pub record Reading (D : Type 0) : Type 0 where
  pub empty : D
  pub is_ended : D → Bool
  pub line : D → ℕ → Wants D

-- no word is left; a word too many is Word
abbrev pub all_taken : {A : Type 0} → Result (A × Words) Kind → Result A Kind
all_taken (Err kind) = Err kind
all_taken (Ok (x, [])) = Ok x
all_taken (Ok (x, w ∷ words)) = Err fault.Word

-- the words of a line; a line without words is skipped, and none has words behind the end
abbrev pub words_read : {D : Type 0} → Reading D → D → ℕ → Words → Result D Kind
words_read r d number [] = Ok d
words_read r d number (first ∷ words) =
    if r.is_ended d then Err fault.AfterEnd else all_taken (r.line d number (first ∷ words))

-- a line: bytes that are not accepted come first
abbrev pub line_read : {D : Type 0} → Reading D → D → ℕ → List ℕ → Result D Kind
line_read r d number line = if has_bad_byte line then Err fault.Byte else words_read r d number (words_of line)

-- a fault in a line has the number of the line
abbrev pub at_line : {A : Type 0} → ℕ → Result A Kind → Result A TextFault
at_line number (Ok x) = Ok x
at_line number (Err kind) = Err (record { line = number; kind = kind })

abbrev pub go_on : {A B : Type 0} → Result A TextFault → (A → Result B TextFault) → Result B TextFault
go_on (Ok x) next = next x
go_on (Err fault) next = Err fault

-- the lines from this number on: the first fault is that of the first faulty line
abbrev pub lines_read : {D : Type 0} → Reading D → D → ℕ → List (List ℕ) → Result D TextFault
lines_read r d number [] = Ok d
lines_read r d number (line ∷ lines) =
    go_on (at_line number (line_read r d number line)) (λ next. lines_read r next (number + 1) lines)

-- the end is missing, after all faults of lines; its line is 1 plus the number of LF bytes
abbrev pub end_wanted : {D : Type 0} → Reading D → List ℕ → D → Result D TextFault
end_wanted r text d =
    if r.is_ended d then Ok d
    else Err (record { line = 1 + count_by (λ b. b == 10) text; kind = fault.EndMissing })

-- what a text tells, or its first fault
abbrev pub text_read : {D : Type 0} → Reading D → List ℕ → Result D TextFault
text_read r text = go_on (lines_read r r.empty 1 (lines_of text)) (end_wanted r text)

-- A kind of line: its first word, where it may stand, where one more is too many, and what its further words tell.
pub record Rule (D I : Type 0) : Type 0 where
  pub name : List ℕ
  pub stands : D → Bool
  pub full : D → Bool
  pub further : D → Wants I

-- the rule of a line that has this first word: Word where there is none, Order where it may not stand here, and TooMany
abbrev pub by_rule : {D I : Type 0} → List (Rule D I) → D → List ℕ → Wants I
by_rule [] d first words = Err fault.Word
by_rule (rule ∷ rules) d first words =
    if bytes_eq first rule.name
    then (if rule.stands d then (if rule.full d then Err fault.TooMany else rule.further d words) else Err fault.Order)
    else by_rule rules d first words

-- a line by its first word
abbrev pub by_first_word : {D I : Type 0} → List (Rule D I) → D → Wants I
by_first_word rules d = word >>= by_rule rules d

-- A grammar: what a line is, and what is told with one more line of this number.
pub record Grammar (D I : Type 0) : Type 0 where
  pub empty : D
  pub is_ended : D → Bool
  pub item : D → Wants I
  pub put : D → ℕ → I → D

abbrev pub reading_of : {D I : Type 0} → Grammar D I → Reading D
reading_of g =
    record {
      empty = g.empty;
      is_ended = g.is_ended;
      line = λ d number. g.item d >>= (λ item. give (g.put d number item));
    }
