-- The place behind the first end line.
use Rattle.std.proofs.Common.{◌≡◌, ℕ, zero, suc, ◌+◌, ◌-◌, ◌≤◌, ◌<◌, Bool, true, false, List, [], ◌∷◌, length, drop, refl, ap, sym, ◌∙◌, arith, min, zero-add}
use Rattle.std.specs.Prelude.{◌==◌, nat_lt, sum_by, if◌then◌else◌}
use Rattle.std.specs.List.{onto_first, position_or_len}
use Rattle.std.proofs.lemmas.List.{length-take, length-drop, drop_all}
use Rattle.std.proofs.lemmas.List.Sums.{sum_by-cons}
use Rattle.std.proofs.lemmas.Bool.Decides.{nat_tests}
use Rattle.vrp_lex.specs.declared.lines.Line.{Line}
use Rattle.vrp_lex.specs.Text.{lines_of}
use Rattle.vrp_lex.specs.Places.{IsLineAt, bytes_of}
use Rattle.model_text.specs.ModelEnd.{is_end_line, lines_to_end, model_end}

-- how long lines are with their LF
abbrev size_of : List (List ℕ) → ℕ
size_of lines = sum_by (λ line. length line + 1) lines

size_more : (line : List ℕ) (lines : List (List ℕ)) → size_of (line ∷ lines) ≡ length line + 1 + size_of lines
size_more line lines = sum_by-cons (λ (l : List ℕ). length l + 1) line lines

-- 1 where the last line has no LF
abbrev missing : List ℕ → ℕ
missing [] = 0
missing (b ∷ []) = if b == 10 then 0 else 1
missing (b ∷ c ∷ bs) = missing (c ∷ bs)

longer_first : (b : ℕ) (lines : List (List ℕ)) → 0 < size_of lines → size_of (onto_first b lines) ≡ 1 + size_of lines
longer_first b [] some = absurd (omega arith)
longer_first b (line ∷ lines) some = omega (arith, size_more (b ∷ line) lines, size_more line lines)

lines_size : (bs : List ℕ) → size_of (lines_of bs) ≡ length bs + missing bs
lines_size [] = refl
lines_size (b ∷ []) = alone (b == 10)
  where
    alone : (lf : Bool) → size_of (if lf then [] ∷ [] else onto_first b []) ≡ 1 + (if lf then 0 else 1)
    alone true = refl
    alone false = refl
lines_size (b ∷ c ∷ bs) = with_rest (b == 10) (lines_size (c ∷ bs))
  where
    with_rest : (lf : Bool) → size_of (lines_of (c ∷ bs)) ≡ length (c ∷ bs) + missing (c ∷ bs) → size_of (if lf then [] ∷ lines_of (c ∷ bs) else onto_first b (lines_of (c ∷ bs))) ≡ length (b ∷ c ∷ bs) + missing (c ∷ bs)
    with_rest true rest = omega (arith, rest, size_more [] (lines_of (c ∷ bs)))
    with_rest false rest = omega (arith, rest, longer_first b (lines_of (c ∷ bs)) (omega (arith, rest)))

missing-drop : (k : ℕ) (bs : List ℕ) → k < length bs → missing (drop k bs) ≡ missing bs
missing-drop zero bs h = refl
missing-drop (suc k) [] h = absurd (omega arith)
missing-drop (suc k) (b ∷ []) h = absurd (omega arith)
missing-drop (suc k) (b ∷ c ∷ bs) h = missing-drop k (c ∷ bs) (omega arith)

missing_few : (bs : List ℕ) → missing bs ≤ 1
missing_few [] = omega arith
missing_few (b ∷ []) = few (b == 10)
  where
    few : (lf : Bool) → (if lf then 0 else 1) ≤ 1
    few true = omega arith
    few false = omega arith
missing_few (b ∷ c ∷ bs) = missing_few (c ∷ bs)

-- where the next line begins, by the sizes of what stands behind two places
place : (size at to next before behind : ℕ) → at ≤ to → to ≤ next → next ≤ size → to - at + 1 + (size - next + behind) ≡ size - at + before → before ≤ 1 → (next < size → behind ≡ before) → (size ≤ next → behind ≡ 0) → next ≡ min size (to + 1)
place size at to next before behind a b c same few inside outside = by_test (nat_lt next size) refl
  where
    by_test : (b : Bool) → nat_lt next size ≡ b → next ≡ min size (to + 1)
    by_test true is =
        let below : next < size = grind (arith, nat_tests, is) in
        let e = inside below in
        omega (arith, a, b, c, same, few, e)
    by_test false is =
        let above : size ≤ next = grind (arith, nat_tests, is) in
        let e = outside above in
        omega (arith, a, b, c, same, few, e, above)

bytes_size : (text : List ℕ) (line : Line) → line.from ≤ line.to → line.to ≤ length text → length (bytes_of text line) ≡ line.to - line.from
bytes_size text line low high =
    omega (arith, low, high, length-take (line.to - line.from) (drop line.from text), length-drop line.from text)

-- the next line begins behind the LF, or where the text ends
pub next_place : (text : List ℕ) (at number : ℕ) (line : Line) → IsLineAt text at number line → line.next ≡ min (length text) (line.to + 1)
next_place text at number line is =
    let from : at ≤ line.to = omega (arith, is.begins, is.ordered.0) in
    let within : at < length text = omega (arith, is.begins, is.goes_on, is.ordered.2) in
    let sizes = ap size_of is.lines in
    let more = size_more (bytes_of text line) (lines_of (drop line.next text)) in
    let size = bytes_size text line is.ordered.0 (omega (arith, is.ordered.1, is.ordered.2)) in
    let here = lines_size (drop at text) in
    let there = lines_size (drop line.next text) in
    let whole = missing-drop at text within in
    let begins = is.begins in
    let counted : line.to - at + 1 + (length text - line.next + missing (drop line.next text)) ≡ length text - at + missing text = omega (arith, sizes, more, size, here, there, whole, begins, length-drop at text, length-drop line.next text) in
    place (length text) at line.to line.next (missing text) (missing (drop line.next text)) from is.ordered.1 is.ordered.2 counted (missing_few text) (missing-drop line.next text) (λ h. ap missing (drop_all line.next text h))

-- how long the lines up to the end line are
abbrev size_to_end : List (List ℕ) → ℕ
size_to_end lines = size_of (lines_to_end lines)

to_end-found : (line : List ℕ) (lines : List (List ℕ)) → is_end_line line ≡ true → size_to_end (line ∷ lines) ≡ length line + 1
to_end-found line lines is = rw is (zero-add (length line + 1))

to_end-further : (line : List ℕ) (lines : List (List ℕ)) → is_end_line line ≡ false → size_to_end (line ∷ lines) ≡ length line + 1 + size_to_end lines
to_end-further line lines is =
    let more : (n : ℕ) → 1 + n + 1 ≡ suc (n + 1) = λ n. omega arith in
    rw (is, more (position_or_len is_end_line lines)) (size_more line (lines_to_end lines))

-- the place behind the end line that is sought, from a place on
pub record EndIsFrom (text : List ℕ) (at : ℕ) : Type 0 where
  pub within : at ≤ length text
  pub same : model_end text ≡ min (length text) (at + size_to_end (lines_of (drop at text)))

pub end_begins : (text : List ℕ) → EndIsFrom text 0
end_begins text = record { within = omega arith; same = ap (min (length text)) (sym (zero-add (size_to_end (lines_of text)))) }

-- a line has the places that its bytes fill
line_size : (text : List ℕ) (at number : ℕ) (line : Line) → IsLineAt text at number line → at + length (bytes_of text line) ≡ line.to
line_size text at number line is =
    let size = bytes_size text line is.ordered.0 (omega (arith, is.ordered.1, is.ordered.2)) in
    omega (arith, size, is.begins, is.ordered.0)

pub end_here : (text : List ℕ) (at number : ℕ) (line : Line) → IsLineAt text at number line → EndIsFrom text at → is_end_line (bytes_of text line) ≡ true → line.next ≡ model_end text
end_here text at number line is from found =
    let next = next_place text at number line is in
    let size = ap size_to_end is.lines ∙ to_end-found (bytes_of text line) (lines_of (drop line.next text)) found in
    let to = line_size text at number line is in
    let place : at + size_to_end (lines_of (drop at text)) ≡ line.to + 1 = omega (arith, size, to) in
    next ∙ sym (from.same ∙ ap (min (length text)) place)

-- a sum from a place that is no further than the end
from_next : (size to next more : ℕ) → next ≡ min size (to + 1) → min size (to + 1 + more) ≡ min size (next + more)
from_next size to next more is = omega (arith, is)

pub end_further : (text : List ℕ) (at number : ℕ) (line : Line) → IsLineAt text at number line → EndIsFrom text at → is_end_line (bytes_of text line) ≡ false → EndIsFrom text line.next
end_further text at number line is from not_found =
    let next = next_place text at number line is in
    let more = size_to_end (lines_of (drop line.next text)) in
    let size = ap size_to_end is.lines ∙ to_end-further (bytes_of text line) (lines_of (drop line.next text)) not_found in
    let to = line_size text at number line is in
    let place : at + size_to_end (lines_of (drop at text)) ≡ line.to + 1 + more = omega (arith, size, to) in
    record {
      within = is.ordered.2;
      same = from.same ∙ (ap (min (length text)) place ∙ from_next (length text) line.to line.next more next);
    }

pub end_nowhere : (text : List ℕ) (at : ℕ) → EndIsFrom text at → lines_of (drop at text) ≡ [] → at ≡ model_end text
end_nowhere text at from none =
    let zero_size : size_to_end (lines_of (drop at text)) ≡ 0 = ap size_to_end none in
    let same = from.same in
    let within = from.within in
    let place : at + size_to_end (lines_of (drop at text)) ≡ at = omega (arith, zero_size) in
    let least : min (length text) at ≡ at = omega (arith, within) in
    sym (same ∙ (ap (min (length text)) place ∙ least))
