-- Entries of lists of amounts, one list after the other and item by item.
use Rattle.std.proofs.Common.{◌≡◌, ℕ, zero, suc, ◌+◌, ◌<◌, ◌≤◌, ◌==◌, ℤ, pos, FitsSigned, to_z, of_z, true, false, List, [], ◌∷◌, ◌++◌, map, take, length, get_or, refl, sym, ◌∙◌, ap, inl, inr, arith, append_assoc}
use Rattle.std.specs.Prelude.{if◌then◌else◌}
use Rattle.std.specs.Ordering.{int_eq}
use Rattle.std.specs.List.{range_with_len}
use Rattle.std.specs.Int.{w64}
use Rattle.std.proofs.lemmas.Int.{to_z-of_z}
use Rattle.std.proofs.lemmas.Bool.{cases_lt}
use Rattle.std.proofs.lemmas.Bool.Decides.{nat_tests}
use Rattle.std.proofs.lemmas.List.{length-map, length-take-le, map-append, take_more}
use Rattle.std.proofs.lemmas.List.FromFn.{length-map-range_with_len, map-range_with_len_more}
use Rattle.fixed_master.specs.declared.parts.Entry.{Entry}
use Rattle.column_pool.specs.Columns.{entries_from}

-- an entry alone, or none
abbrev entry_of : ℕ → ℤ → List Entry
entry_of row x = if int_eq x (pos 0) then [] else record { row = row; value = x } ∷ []

pub entries_from-append : (row : ℕ) (xs ys : List ℤ) → entries_from row (xs ++ ys) ≡ entries_from row xs ++ entries_from (row + length xs) ys
entries_from-append row [] ys = let same : row ≡ row + 0 = omega arith in ap (λ (r : ℕ). entries_from r ys) same
entries_from-append row (x ∷ xs) ys =
    let same : row + 1 + length xs ≡ row + suc (length xs) = omega arith in
    ap (λ (es : List Entry). entry_of row x ++ es) (entries_from-append (row + 1) xs ys ∙ ap (λ (r : ℕ). entries_from (row + 1) xs ++ entries_from r ys) same)
    ∙ sym (append_assoc (entry_of row x) (entries_from (row + 1) xs) (entries_from (row + suc (length xs)) ys))

-- a loop that adds the entries of a list, one after the other
pub entries_step : {X : Type 0} (f : X → ℤ) (old entries new : List Entry) (from k : ℕ) (xs : List X) (d : X) (x : ℤ) → k < length xs → entries ≡ old ++ entries_from from (map f (take k xs))
    → new ≡ entries ++ entries_from (from + k) (x ∷ []) → x ≡ f (get_or xs k d) → new ≡ old ++ entries_from from (map f (take (k + 1) xs))
entries_step f old entries new from k xs d x below before made is =
    let count : length (map f (take k xs)) ≡ k = length-map (take k xs) f ∙ length-take-le k xs (omega arith) in
    let more : map f (take (k + 1) xs) ≡ map f (take k xs) ++ x ∷ [] =
    ap (map f) (take_more xs k d below) ∙ (map-append f (take k xs) (get_or xs k d ∷ []) ∙ ap (λ (y : ℤ). map f (take k xs) ++ y ∷ []) (sym is)) in
    let parts : entries_from from (map f (take (k + 1) xs)) ≡ entries_from from (map f (take k xs)) ++ entries_from (from + k) (x ∷ []) =
    ap (entries_from from) more
    ∙ (entries_from-append from (map f (take k xs)) (x ∷ []) ∙ ap (λ (n : ℕ). entries_from from (map f (take k xs)) ++ entries_from (from + n) (x ∷ [])) count) in
    made
    ∙ (ap (λ (es : List Entry). es ++ entries_from (from + k) (x ∷ [])) before
    ∙ (append_assoc old (entries_from from (map f (take k xs))) (entries_from (from + k) (x ∷ [])) ∙ ap (λ (es : List Entry). old ++ es) (sym parts)))

-- the entries of a list that is 1 at one place and 0 at the others
abbrev pub one_at : ℕ → ℕ → ℤ
one_at g h = pos (if g == h then 1 else 0)

entries_more : (row n : ℕ) (f : ℕ → ℤ) → entries_from row (map f (range_with_len 0 (suc n))) ≡ entries_from row (map f (range_with_len 0 n)) ++ entries_from (row + n) (f n ∷ [])
entries_more row n f =
    let next : suc n ≡ n + 1 = omega arith in
    ap (λ (k : ℕ). entries_from row (map f (range_with_len 0 k))) next
    ∙ (ap (entries_from row) (map-range_with_len_more f 0 n n (omega arith))
    ∙ (entries_from-append row (map f (range_with_len 0 n)) (f n ∷ [])
    ∙ ap (λ (k : ℕ). entries_from row (map f (range_with_len 0 n)) ++ entries_from (row + k) (f n ∷ [])) (length-map-range_with_len f 0 n)))

none_before : (row g n : ℕ) → n ≤ g → entries_from row (map (one_at g) (range_with_len 0 n)) ≡ []
none_before row g zero least = refl
none_before row g (suc n) least =
    let unmet : (g == n) ≡ false = grind (arith, nat_tests) in
    entries_more row n (one_at g) ∙ (λ i. none_before row g n (omega arith) i ++ entries_from (row + n) (pos (if unmet i then 1 else 0) ∷ []))

pub entries_of_one : (row g n : ℕ) → g < n → entries_from row (map (one_at g) (range_with_len 0 n)) ≡ entries_from (row + g) (pos 1 ∷ [])
entries_of_one row g zero below = absurd (omega arith)
entries_of_one row g (suc n) below =
    elim (cases_lt g n) [
      | inl less ↦
          let unmet : (g == n) ≡ false = grind (arith, nat_tests) in
          entries_more row n (one_at g) ∙ (λ i. entries_of_one row g n less i ++ entries_from (row + n) (pos (if unmet i then 1 else 0) ∷ []))
      | inr least ↦
          let same : n ≡ g = omega arith in
          let met : (g == n) ≡ true = grind (arith, nat_tests) in
          entries_more row n (one_at g) ∙ ((λ i. none_before row g n least i ++ entries_from (row + n) (pos (if met i then 1 else 0) ∷ [])) ∙ ap (λ (k : ℕ). entries_from (row + k) (pos 1 ∷ [])) same)
    ]

-- the same, in the form in which a loop over signed numbers tells it
pub entries_told : {X : Type 0} (f : X → ℤ) (old entries new : List Entry) (from k : ℕ) (xs : List X) (d : X) (r : ℤ) → k < length xs → FitsSigned w64 r → entries ≡ old ++ entries_from from (map f (take k xs))
    → new ≡ entries ++ entries_from (from + k) (to_z w64 (of_z w64 r) ∷ []) → r ≡ f (get_or xs k d) → new ≡ old ++ entries_from from (map f (take (k + 1) xs))
entries_told f old entries new from k xs d r below fits before made is = entries_step f old entries new from k xs d (to_z w64 (of_z w64 r)) below before made (to_z-of_z w64 r fits ∙ is)
