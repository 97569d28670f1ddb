-- The lines of a model text by the stage at which they stand: the reading of a model text, case by case.
use Rattle.std.proofs.Common.{◌≡◌, ℕ, ◌+◌, List, [], ◌∷◌, Bool, true, false, refl, ap, ◌∙◌, Option, None, Some, Result, Ok, Err}
use Rattle.std.specs.Prelude.{◌==◌, codes, if◌then◌else◌, count_by}
use Rattle.std.specs.Cmp.Lexicographic.{pointwise}
use Rattle.std.specs.Str.{bytes_eq}
use Rattle.vrp_lex.specs.Text.{lines_of, words_of, has_bad_byte}
use Rattle.line_text.specs.declared.fault.Kind.{Kind}
use Rattle.line_text.specs.declared.fault.Kind.TheVariants as fault
use Rattle.line_text.specs.declared.fault.TextFault.{TextFault}
use Rattle.line_text.specs.Words.{Words, ◌>>=◌, ◌>>◌, and_then, give, word, version_wanted}
use Rattle.line_text.specs.Reading.{all_taken, at_line, go_on}
use Rattle.line_text.specs.Reading as reading
use Rattle.model_text.specs.declared.draft.Stage.{Stage}
use Rattle.model_text.specs.declared.draft.Stage.TheVariants.{Opening, Variables, Rows, Sets, Vertices, Arcs, Ended}
use Rattle.model_text.specs.declared.draft.Draft.{Draft}
use Rattle.model_text.specs.declared.line_kind.LineKind.{LineKind}
use Rattle.model_text.specs.Draft.{empty_draft, is_opening}
use Rattle.model_text.specs.LineKinds.{version_words, kind_of, may_stand, passes_limit, further_wanted}
use Rattle.model_text.specs.FirstFault.{is_ended, model_reading, text_read}
use Rattle.model_text.specs.FirstFault as spec

-- a line of a kind: whether it may stand here, then whether there are too many, then its further words, then a word too many
abbrev pub line_of_kind : Draft → ℕ → Words → LineKind → Result Draft Kind
line_of_kind d number words kind =
    if may_stand kind d.stage
    then (if passes_limit kind d then Err fault.TooMany else all_taken (further_wanted kind d number words))
    else Err fault.Order

-- a line behind the version line and before the end of the model
abbrev pub line_within : Draft → ℕ → Words → Option LineKind → Result Draft Kind
line_within d number words None = Err fault.Word
line_within d number words (Some kind) = line_of_kind d number words kind

-- the words of a line; a line without words is skipped
abbrev pub words_read : Draft → Stage → ℕ → Words → Result Draft Kind
words_read d stage number [] = Ok d
words_read d Opening number (first ∷ words) =
    if pointwise bytes_eq (first ∷ words) version_words then Ok (record d { stage = Variables }) else Err fault.Version
words_read d Ended number (first ∷ words) = Err fault.AfterEnd
words_read d _ number (first ∷ words) = line_within d number words (kind_of first)

-- a line: bytes that are not accepted come first
abbrev pub line_read : Draft → ℕ → List ℕ → Result Draft Kind
line_read d number line =
    if has_bad_byte line then Err fault.Byte else words_read d d.stage number (words_of line)

-- the lines from this number on: the first fault is that of the first faulty line
abbrev pub lines_read : Draft → ℕ → List (List ℕ) → Result Draft TextFault
lines_read d number [] = Ok d
lines_read d number (line ∷ lines) =
    go_on (at_line number (line_read d number line)) (λ next. lines_read next (number + 1) lines)

-- the end is missing, after all faults of lines; its line is 1 plus the number of LF bytes
abbrev pub end_wanted : List ℕ → Draft → Result Draft TextFault
end_wanted text d =
    if is_ended d.stage then Ok d
    else Err (record { line = 1 + count_by (λ b. b == 10) text; kind = fault.EndMissing })

-- all lines of a text, and the end
abbrev pub read_by_stage : List ℕ → Result Draft TextFault
read_by_stage text = go_on (lines_read empty_draft 1 (lines_of text)) (end_wanted text)

-- the reading goes by these
version_is : (b : Bool) (d : Draft) → all_taken (and_then (if◌then◌else◌ {A = Result (Unit {0} × Words) Kind} b (Ok (tt, [])) (Err fault.Version)) (λ _. give (record d { stage = Variables }))) ≡ (if b then Ok (record d { stage = Variables }) else Err fault.Version)
version_is true d = refl
version_is false d = refl

tests_are : (stands full : Bool) (r : Result (Draft × Words) Kind) → all_taken (if stands then (if full then Err fault.TooMany else r) else Err fault.Order) ≡ (if stands then (if full then Err fault.TooMany else all_taken r) else Err fault.Order)
tests_are true true r = refl
tests_are true false r = refl
tests_are false full r = refl

kind_is : (d : Draft) (n : ℕ) (words : Words) (kind : Option LineKind) → all_taken (spec.line_within d n kind words) ≡ line_within d n words kind
kind_is d n words None = refl
kind_is d n words (Some kind) = tests_are (may_stand kind d.stage) (passes_limit kind d) (further_wanted kind d n words)

-- what a line tells first, and what one tells behind it
abbrev opens : Draft → Words → Result (Draft × Words) Kind
opens d words = (version_wanted (codes "vrpmodel") (codes "1") >> give (record d { stage = Variables })) words

abbrev follows : Draft → ℕ → Words → Result (Draft × Words) Kind
follows d n words = (word >>= (λ first. spec.line_within d n (kind_of first))) words

line_is : (d : Draft) (stage : Stage) (n : ℕ) (first : List ℕ) (words : Words) → (if is_ended stage then Err fault.AfterEnd else all_taken (if is_opening stage then opens d (first ∷ words) else follows d n (first ∷ words))) ≡ words_read d stage n (first ∷ words)
line_is d Opening n first words = version_is (pointwise bytes_eq (first ∷ words) version_words) d
line_is d Variables n first words = kind_is d n words (kind_of first)
line_is d Rows n first words = kind_is d n words (kind_of first)
line_is d Sets n first words = kind_is d n words (kind_of first)
line_is d Vertices n first words = kind_is d n words (kind_of first)
line_is d Arcs n first words = kind_is d n words (kind_of first)
line_is d Ended n first words = refl

words_are : (d : Draft) (n : ℕ) (words : Words) → reading.words_read model_reading d n words ≡ words_read d d.stage n words
words_are d n [] = refl
words_are d n (first ∷ words) = line_is d d.stage n first words

line_read-is : (d : Draft) (n : ℕ) (line : List ℕ) → reading.line_read model_reading d n line ≡ line_read d n line
line_read-is d n line = ap (λ (r : Result Draft Kind). if has_bad_byte line then Err fault.Byte else r) (words_are d n (words_of line))

goes_alike : {A B : Type 0} (r : Result A TextFault) (f g : A → Result B TextFault) → ((x : A) → f x ≡ g x) → go_on r f ≡ go_on r g
goes_alike (Ok x) f g same = same x
goes_alike (Err e) f g same = refl

lines_read-is : (d : Draft) (n : ℕ) (lines : List (List ℕ)) → reading.lines_read model_reading d n lines ≡ lines_read d n lines
lines_read-is d n [] = refl
lines_read-is d n (line ∷ lines) =
    ap (λ r. go_on (at_line n r) (λ next. reading.lines_read model_reading next (n + 1) lines)) (line_read-is d n line)
    ∙ goes_alike (at_line n (line_read d n line)) _ _ (λ next. lines_read-is next (n + 1) lines)

pub text_read-is : (text : List ℕ) → text_read text ≡ read_by_stage text
text_read-is text = ap (λ r. go_on r (end_wanted text)) (lines_read-is empty_draft 1 (lines_of text))
