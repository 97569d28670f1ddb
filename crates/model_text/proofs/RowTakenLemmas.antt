-- The words of a variable and of a row are taken as these.
use Rattle.std.proofs.Common.{◌≡◌, ℕ, ◌+◌, ◌-◌, ◌≤◌, ◌<◌, unsigned_abs, Bool, true, false, not, List, [], ◌∷◌, ◌++◌, length, get_or, refl, ap, subst, sym, ◌∙◌, arith, Option, None, Some}
use Rattle.std.specs.Prelude.{◌==◌, nat_lt, if◌then◌else◌, All, option_map, slice_get}
use Rattle.std.specs.List.{flat_map}
use Rattle.std.specs.Fmt.{signed_decimal}
use Rattle.std.proofs.lemmas.Bool.Decides.{nat_tests}
use Rattle.std.proofs.lemmas.List.{length-append, get_or_append_left}
use Rattle.std.proofs.Math.Seq.{get_or-append_seam}
use Rattle.std.proofs.lemmas.List.Sums.{sum_by-append, sum_by-cons}
use Rattle.std.proofs.lemmas.Option.{slice_get-get_or}
use Rattle.route_model.specs.declared.parts.Var.{Var}
use Rattle.route_model.specs.declared.parts.RowTerm.{RowTerm}
use Rattle.route_model.specs.declared.parts.Row.{Row}
use Rattle.route_model.specs.Fit.{Ascends, VarFits, TermFits, RowFits, RowsFit, MapFits, row_coef, total_coef}
use Rattle.line_text.specs.Words.{Words}
use Rattle.model_text.specs.LineWords.{var_wanted, last_of, is_above, row_wanted}
use Rattle.model_text.specs.ModelText.{side_word, term_words}
use Rattle.model_text.specs.Totals.{term_total}
use Rattle.line_text.proofs.ListReads.{EachAfter, each_of_cuts}
use Rattle.model_text.proofs.LineReads.{TermMay, MappedMay, var-reads, row-reads}
use Rattle.model_text.proofs.TakenLemmas.{Takes, takes, by_true}

pub var_takes : (v : Var) (left : Words) → VarFits v → Takes var_wanted (signed_decimal v.low ∷ signed_decimal v.high ∷ signed_decimal v.cost ∷ []) v left
var_takes v left fit = takes var-reads v fit left tt

-- of keys that ascend each is above the last of those before it
is_above_last : {X : Type 0} (key : X → ℕ) (front : List X) (x : X) (back : List X) → Ascends key (front ++ x ∷ back) → is_above (option_map key (last_of front)) (key x) ≡ true
is_above_last key [] x back up = refl
is_above_last {X} key (f ∷ fs) x back up =
    let front : List X = f ∷ fs in
    let size : length (front ++ x ∷ back) ≡ length front + length (x ∷ back) = length-append front (x ∷ back) in
    let place : length front - 1 < length front = omega arith in
    let last : slice_get front (length front - 1) ≡ Some (get_or front (length front - 1) x) = slice_get-get_or front (length front - 1) x place in
    let next : length front - 1 + 1 ≡ length front = omega arith in
    let below = up (length front - 1) x (omega (arith, size)) in
    let first : get_or (front ++ x ∷ back) (length front - 1) x ≡ get_or front (length front - 1) x = get_or_append_left front (x ∷ back) x (length front - 1) place in
    let second : get_or (front ++ x ∷ back) (length front - 1 + 1) x ≡ x = ap (λ n. get_or (front ++ x ∷ back) n x) next ∙ get_or-append_seam front x back x in
    let less : key (get_or front (length front - 1) x) < key x = rw (first, second) at below in
    let told : nat_lt (key (get_or front (length front - 1) x)) (key x) ≡ true = grind (arith, nat_tests, less) in
    ap (λ o. is_above (option_map key o) (key x)) last ∙ told

true_not : (b : Bool) → b ≡ true → not b ≡ false
true_not true h = refl
true_not false h = cc

pub below_test : (a b : ℕ) → a < b → not (nat_lt a b) ≡ false
below_test a b h = grind (arith, nat_tests, h)

pub above_test : (a b : ℕ) → a ≤ b → nat_lt b a ≡ false
above_test a b h = grind (arith, nat_tests, h)

-- what a term must keep beside the terms before it
pub record TermRoom (vars : List Var) (rows : List Row) (front : List RowTerm) (t : RowTerm) : Type 0 where
  pub declared : length vars ≤ 30000
  pub fits : TermFits (length vars) t
  pub above : is_above (option_map (λ (u : RowTerm). u.var) (last_of front)) t.var ≡ true
  pub few : term_total rows + length front < 1000000
  pub small : total_coef rows t.var + row_coef t.var front + unsigned_abs t.coef ≤ 1048576

room_may : (vars : List Var) (rows : List Row) (front : List RowTerm) (t : RowTerm) → TermRoom vars rows front t → TermMay vars rows front t
room_may vars rows front t room = (room.fits.var, room.above, room.fits.coef, room.few, room.small)

pub row_takes : (vars : List Var) (rows : List Row) (row : Row) → length vars ≤ 30000 → RowFits (length vars) row → ((front : List RowTerm) (t : RowTerm) (back : List RowTerm) → front ++ t ∷ back ≡ row.terms → TermRoom vars rows front t) → Takes (row_wanted vars rows) (side_word row.low ∷ side_word row.high ∷ flat_map term_words row.terms) row []
row_takes vars rows row few fit room =
    takes (row-reads vars rows few) row (fit.sides, each_of_cuts row.terms (λ front t back is. room_may vars rows front t (room front t back is)) [] row.terms refl) [] refl

-- an item of a list of which each item keeps something
pub at_seam : {X : Type 0} (P : X → Type 0) (front : List X) (x : X) (back : List X) → All P (front ++ x ∷ back) → P x
at_seam P front x back all =
    subst P (get_or-append_seam front x back x) (all (length front) x (omega (arith, length-append front (x ∷ back))))

-- a row among all rows
coef_here : (t : RowTerm) → (if t.var == t.var then unsigned_abs t.coef else 0) ≡ unsigned_abs t.coef
coef_here t = by_true (unsigned_abs t.coef) 0 (t.var == t.var) (grind (arith, nat_tests))

pub row_room : (vars : List Var) (before : List Row) (row : Row) (after : List Row) → length vars ≤ 30000 → RowsFit (length vars) (before ++ row ∷ after) → RowFits (length vars) row → (front : List RowTerm) (t : RowTerm) (back : List RowTerm) → front ++ t ∷ back ≡ row.terms → TermRoom vars before front t
row_room vars before row after few_vars all fit front t back is =
    let here : TermFits (length vars) t = at_seam (TermFits (length vars)) front t back (rw (← is) at fit.each) in
    let terms : term_total (before ++ row ∷ after) ≡ term_total before + term_total (row ∷ after) = sum_by-append (λ (r : Row). length r.terms) before (row ∷ after) in
    let of_row : term_total (row ∷ after) ≡ length row.terms + term_total after = sum_by-cons (λ (r : Row). length r.terms) row after in
    let size : length row.terms ≡ length front + length (t ∷ back) = ap length (sym is) ∙ length-append front (t ∷ back) in
    let few = all.few_terms in
    let coefs : total_coef (before ++ row ∷ after) t.var ≡ total_coef before t.var + total_coef (row ∷ after) t.var = sum_by-append (λ (r : Row). row_coef t.var r.terms) before (row ∷ after) in
    let coefs_of_row : total_coef (row ∷ after) t.var ≡ row_coef t.var row.terms + total_coef after t.var = sum_by-cons (λ (r : Row). row_coef t.var r.terms) row after in
    let split : row_coef t.var row.terms ≡ row_coef t.var front + row_coef t.var (t ∷ back) = ap (row_coef t.var) (sym is) ∙ sum_by-append (λ (u : RowTerm). if u.var == t.var then unsigned_abs u.coef else 0) front (t ∷ back) in
    let of_term : row_coef t.var (t ∷ back) ≡ (if t.var == t.var then unsigned_abs t.coef else 0) + row_coef t.var back = sum_by-cons (λ (u : RowTerm). if u.var == t.var then unsigned_abs u.coef else 0) t back in
    let whole = coef_here t in
    let small = all.coefs t.var here.var in
    record {
      declared = few_vars;
      fits = here;
      above = is_above_last (λ (u : RowTerm). u.var) front t back (rw (← is) at fit.ascend);
      few = omega (arith, terms, of_row, size, few);
      small = omega (arith, coefs, coefs_of_row, split, of_term, whole, small);
    }

-- the mapped variables of an arc
above_plain : (last : Option ℕ) (n : ℕ) → is_above (option_map (λ j. j) last) n ≡ true → is_above last n ≡ true
above_plain None n h = h
above_plain (Some last) n h = h

mapped_may : (vars : ℕ) (front : List ℕ) (j : ℕ) (back : List ℕ) → MapFits vars (front ++ j ∷ back) → MappedMay vars front j
mapped_may vars front j back fit =
    let most = fit.few in (
      at_seam (λ i. i < vars) front j back fit.each,
      above_plain (last_of front) j (is_above_last (λ i. i) front j back fit.ascend),
      omega (arith, most, length-append front (j ∷ back)),
    )

pub mapped_each : (vars : ℕ) (mapped : List ℕ) → MapFits vars mapped → EachAfter (MappedMay vars) [] mapped
mapped_each vars mapped fit = each_of_cuts mapped (λ front j back is. mapped_may vars front j back (rw (← is) at fit)) [] mapped refl
