-- The first line of bytes.
use Rattle.std.proofs.Common.{◌≡◌, ◌≢◌, ℕ, zero, suc, ◌+◌, ◌-◌, ◌≤◌, ◌<◌, List, [], ◌∷◌, length, take, drop, refl, ap, true, false, arith, get_or, ◌∙◌, slice_range}
use Rattle.std.specs.Prelude.{◌==◌}
use Rattle.std.specs.List.{onto_first}
use Rattle.std.proofs.lemmas.Bool.Decides.{nat_tests}
use Rattle.std.proofs.lemmas.List.{drop-drop, drop_all, length-drop}
use Rattle.vrp_lex.specs.Text.{lines_of}

pub lines_of-first : (n : ℕ) (xs : List ℕ) → 0 < length xs → n ≤ length xs → ((k : ℕ) → k < n → get_or xs k 0 ≢ 10) → (n < length xs → get_or xs n 0 ≡ 10) → lines_of xs ≡ take n xs ∷ lines_of (drop (n + 1) xs)
lines_of-first n [] some within before found = absurd (omega arith)
lines_of-first zero (b ∷ bs) some within before found =
    let is : b ≡ 10 = found some in
    let test : (b == 10) ≡ true = grind (arith, nat_tests) in
    rw test refl
lines_of-first (suc n) (b ∷ []) some within before found =
    let none : n ≡ 0 = omega arith in
    let no : b ≢ 10 = before 0 (omega arith) in
    let test : (b == 10) ≡ false = grind (arith, nat_tests) in
    rw (none, test) refl
lines_of-first (suc n) (b ∷ c ∷ bs) some within before found =
    let no : b ≢ 10 = before 0 (omega arith) in
    let test : (b == 10) ≡ false = grind (arith, nat_tests) in
    let more : suc n + 1 ≡ suc (n + 1) = omega arith in
    let rest : lines_of (c ∷ bs) ≡ take n (c ∷ bs) ∷ lines_of (drop (n + 1) (c ∷ bs)) = lines_of-first n (c ∷ bs) (omega arith) (omega arith) (λ k below. before (suc k) (omega arith)) (λ below. found (omega arith)) in
    rw (more, test) (ap (onto_first b) rest)

-- a line with its LF, and one without
pub line_begins : (text : List ℕ) (from n : ℕ) → from + n < length text → ((k : ℕ) → k < n → get_or (drop from text) k 0 ≢ 10) → (n < length (drop from text) → get_or (drop from text) n 0 ≡ 10) → lines_of (drop from text) ≡ slice_range text from (from + n) ∷ lines_of (drop (from + n + 1) text)
line_begins text from n within before found =
    let size = length-drop from text in
    let first = lines_of-first n (drop from text) (omega (arith, size)) (omega (arith, size)) before found in
    let same : from + n - from ≡ n = omega arith in
    let place : from + (n + 1) ≡ from + n + 1 = omega arith in
    rw (same, ← place, ← (drop-drop (n + 1) from text)) first

pub last_line : (text : List ℕ) (from n : ℕ) → from < length text → length text ≤ from + n → n ≤ length (drop from text) → ((k : ℕ) → k < n → get_or (drop from text) k 0 ≢ 10) → lines_of (drop from text) ≡ slice_range text from (from + n) ∷ lines_of (drop (from + n) text)
last_line text from n some ends within before =
    let size = length-drop from text in
    let first = lines_of-first n (drop from text) (omega (arith, size)) within before (λ below. absurd (omega (arith, size))) in
    let same : from + n - from ≡ n = omega arith in
    let none = drop_all (from + n) text ends in
    let rest = drop_all (n + 1) (drop from text) (omega (arith, size)) in
    rw (same, none) (first ∙ rw rest refl)
