-- Each word of the lines of variables, rows and sets is printed.
use Rattle.std.proofs.Common.{ℕ, zero, suc, ◌≤◌, ℤ, pos, negsuc, neg_ℤ, ◌≤ℤ◌, [], ◌∷◌, Option, None, Some, refl, arith}
use Rattle.std.specs.Prelude.{All, IfSome, codes}
use lib.Signed.{mag}
use Rattle.std.specs.Fmt.{decimal, signed_decimal}
use Rattle.std.specs.List.{flat_map}
use Rattle.std.proofs.lemmas.Int.{ints}
use Rattle.std.proofs.lemmas.List.Elements.{All-nil, All-cons}
use Rattle.path_graph.specs.Within.{IsWithin}
use Rattle.route_model.specs.declared.parts.Var.{Var}
use Rattle.route_model.specs.declared.parts.RowTerm.{RowTerm}
use Rattle.route_model.specs.declared.parts.Row.{Row}
use Rattle.route_model.specs.Fit.{VarFits, TermFits, RowFits}
use Rattle.model_text.specs.ModelText.{side_word, term_words}
use Rattle.model_text.specs.ModelLines.{var_words, row_words, sets_words}
use Rattle.model_text.proofs.ItemLemmas.{All-flat_map}
use Rattle.line_text.proofs.PrintedWordLemmas.{IsPrinted, printed_name, printed_decimal, printed_signed, IsPrintedLine, line_begins, two}

-- numbers in their limits
mag_within : (n : ℕ) (z : ℤ) → IsWithin n z → mag z ≤ n
mag_within n (pos k) h = let high = h.1 in omega (arith, ints)
mag_within zero (negsuc k) h = let low = h.0 in omega (arith, ints)
mag_within (suc n) (negsuc k) h = let low = h.0 in omega (arith, ints)

pub printed_within : (n : ℕ) (z : ℤ) → n ≤ 1000000000000 → IsWithin n z → IsPrinted (signed_decimal z)
printed_within n z few h = let m = mag_within n z h in printed_signed z (omega (arith, m, few))

pub printed_small : (n : ℕ) → n ≤ 1000000 → IsPrinted (decimal n)
printed_small n few = printed_decimal n (omega (arith, few))

-- variables
pub printed_var : (v : Var) → VarFits v → IsPrintedLine (var_words v)
printed_var v fits =
    let above : (neg_ℤ (pos 1000000)) ≤ℤ v.low = let l = fits.low in omega (arith, ints) in
    let below : v.low ≤ℤ (pos 1000000) = let l = fits.sides in let h = fits.high in omega (arith, ints) in
    let high : (neg_ℤ (pos 1000000)) ≤ℤ v.high = let l = fits.low in let h = fits.sides in omega (arith, ints) in
    line_begins (codes "var") (signed_decimal v.low ∷ signed_decimal v.high ∷ signed_decimal v.cost ∷ []) (printed_name (codes "var") refl refl refl)
    (two (signed_decimal v.low) (signed_decimal v.high) (signed_decimal v.cost ∷ [])
    (printed_within 1000000 v.low (omega arith) (above, below))
    (printed_within 1000000 v.high (omega arith) (high, fits.high))
    (All-cons IsPrinted (signed_decimal v.cost) [] (printed_within 1000000000 v.cost (omega arith) fits.cost) (All-nil IsPrinted)))

-- rows
printed_side : (side : Option ℤ) → IfSome side (IsWithin 1000000000000) → IsPrinted (side_word side)
printed_side None h = printed_name (codes "*") refl refl refl
printed_side (Some z) h = printed_within 1000000000000 z (omega arith) h

printed_term : (count : ℕ) → count ≤ 30000 → (t : RowTerm) → TermFits count t → All IsPrinted (term_words t)
printed_term count few t fits =
    two (decimal t.var) (signed_decimal t.coef) [] (printed_small t.var (let below = fits.var in omega (arith, few)))
    (printed_within 1000000 t.coef (omega arith) fits.coef) (All-nil IsPrinted)

pub printed_row : (count : ℕ) → count ≤ 30000 → (row : Row) → RowFits count row → IsPrintedLine (row_words row)
printed_row count few row fits =
    line_begins (codes "row") (side_word row.low ∷ side_word row.high ∷ flat_map term_words row.terms) (printed_name (codes "row") refl refl refl)
    (two (side_word row.low) (side_word row.high) (flat_map term_words row.terms)
    (printed_side row.low fits.sides.low_side) (printed_side row.high fits.sides.high_side)
    (All-flat_map IsPrinted term_words row.terms (λ k d below. printed_term count few _ (fits.each k d below))))

-- sets
pub printed_sets : (sets : ℕ) → sets ≤ 512 → IsPrintedLine (sets_words sets)
printed_sets sets few =
    line_begins (codes "sets") (decimal sets ∷ []) (printed_name (codes "sets") refl refl refl)
    (All-cons IsPrinted (decimal sets) [] (printed_small sets (omega (arith, few))) (All-nil IsPrinted))
