-- Steps of the loops that price units and arcs.
use Rattle.std.proofs.Common.{◌≡◌, ◌≢◌, ℕ, zero, suc, ◌+◌, ◌*◌, ◌^◌, ◌<◌, ◌≤◌, ◌==◌, ℤ, pos, ◌+ℤ◌, ◌-ℤ◌, ◌*ℤ◌, FitsSigned, to_z, of_z, w64, Bool, true, false, List, [], ◌∷◌, ◌++◌, map, take, drop, All, length, set, get_or-set_same, get_or-set_other, inl, inr, sym, ◌∙◌, ap, subst, arith}
use Rattle.std.proofs.lemmas.Int.{ints, to_z-of_z}
use Rattle.std.specs.Int.{w128}
use Rattle.path_graph.specs.Within.{IsWithin}
use Rattle.path_graph.specs.Sums.{sum_below}
use Rattle.path_graph.specs.Fit.{int_at}
use Rattle.path_graph.proofs.SumLemmas.{product_within, sum_below-more}
use Rattle.std.specs.Prelude.{if◌then◌else◌}
use Rattle.std.proofs.lemmas.Bool.{cases_Bool}
use Rattle.std.specs.List.{range_with_len}
use Rattle.std.proofs.lemmas.List.{drop_all, take_all, append-nil}
use Rattle.std.proofs.lemmas.List.FromFn.{get_or-map-range_with_len, length-map-range_with_len, map-range_with_len_more}
use Rattle.multipliers.specs.Quantities.{scaled}
use Rattle.std.proofs.lemmas.List.Sums.{get_or-le-sum_by}
use Rattle.std.proofs.lemmas.Bool.Decides.{nat_tests}
use lib.IntN.{+ℤ_idr}
use Rattle.route_model.specs.declared.parts.RowTerm.{RowTerm}
use Rattle.route_model.specs.declared.parts.Row.{Row}
use Rattle.route_model.specs.declared.parts.Var.{Var}
use Rattle.path_graph.specs.First.{EachBelow}
use Rattle.route_model.specs.Fit.{RowsFit, TermFits, VarsFit}
use Rattle.route_model.specs.declared.multipliers.Mult.{Mult}
use Rattle.multipliers.specs.Ranges.{AreUnits}
use Rattle.route_model.specs.Parts.{ModelParts, row_at, term_at, var_at}
use Rattle.multipliers.specs.Priced.{coef_in}
use Rattle.path_graph.proofs.IntLemmas.{mul_z-add}

-- a difference of two numbers that are far from the ends
pub less_fits : (x p : ℤ) → IsWithin (2 ^ 121) x → IsWithin (2 ^ 48 * 1000000) p → FitsSigned w128 (to_z w128 (of_z w128 x) -ℤ to_z w128 (of_z w128 p))
less_fits x p h k = omega (arith, ints, h.0, h.1, k.0, k.1)

-- a product of a multiplier and a coefficient, as code computes it
pub product_told : (f v r : ℤ) → IsWithin (2 ^ 48) f → IsWithin 1000000 v → r ≡ to_z w64 (of_z w64 f) *ℤ to_z w64 (of_z w64 v) → r ≡ f *ℤ v
product_told f v r p q e =
    let ff : FitsSigned w64 f = omega (arith, ints, p.0, p.1) in
    let fv : FitsSigned w64 v = omega (arith, ints, q.0, q.1) in
    e ∙ (λ i. to_z-of_z w64 f ff i *ℤ to_z-of_z w64 v fv i)

pub product_small : (f v r : ℤ) → IsWithin (2 ^ 48) f → IsWithin 1000000 v → r ≡ to_z w64 (of_z w64 f) *ℤ to_z w64 (of_z w64 v) → IsWithin (2 ^ 48 * 1000000) r
product_small f v r p q e = subst (IsWithin (2 ^ 48 * 1000000)) (sym (product_told f v r p q e)) (product_within (2 ^ 48) 1000000 f v p q)

-- the coefficient of a variable in the first terms of a row
abbrev pub coef_below : List RowTerm → ℕ → ℕ → ℤ
coef_below terms n j = sum_below n (λ k. if (term_at terms k).var == j then (term_at terms k).coef else pos 0)

pub coef_small : (count : ℕ) (terms : List RowTerm) (n j : ℕ) → All (TermFits count) terms → n ≤ length terms → IsWithin (n * 1000000) (coef_below terms n j)
coef_small count terms zero j fits few = (omega (arith, ints), omega (arith, ints))
coef_small count terms (suc n) j fits few =
    let before = coef_small count terms n j fits (omega arith) in
    let coef = (fits n _ (omega arith)).coef in
    either ((term_at terms n).var == j) (coef_below terms n j) (term_at terms n).coef before coef
  where
    either : (b : Bool) (s c : ℤ) → IsWithin (n * 1000000) s → IsWithin 1000000 c → IsWithin (suc n * 1000000) (s +ℤ (if b then c else pos 0))
    either true s c h k = (omega (arith, ints, h.0, k.0), omega (arith, ints, h.1, k.1))
    either false s c h k = (omega (arith, ints, h.0), omega (arith, ints, h.1))

-- a unit while its row is taken
pub unit_small : (x0 x mult : ℤ) (count : ℕ) (terms : List RowTerm) (n j : ℕ) → All (TermFits count) terms → length terms ≤ 1000000 → n ≤ length terms → IsWithin (2 ^ 48) mult → IsWithin (2 ^ 120) x0
    → x ≡ x0 -ℤ mult *ℤ coef_below terms n j → IsWithin (2 ^ 121) x
unit_small x0 x mult count terms n j fits few inside small start is =
    let coef = coef_small count terms n j fits inside in
    let wide : IsWithin 1000000000000 (coef_below terms n j) = (omega (arith, ints, coef.0), omega (arith, ints, coef.1)) in
    let worth = product_within (2 ^ 48) 1000000000000 mult (coef_below terms n j) small wide in
    (omega (arith, ints, start.0, worth.1), omega (arith, ints, start.1, worth.0))

pub row_step : (units new : List ℤ) (x0 mult : ℤ) (terms : List RowTerm) (n j : ℕ) (t : RowTerm) → t ≡ term_at terms n → t.var < length units
    → new ≡ set units t.var (int_at units t.var -ℤ mult *ℤ t.coef) → int_at units j ≡ x0 -ℤ mult *ℤ coef_below terms n j → int_at new j ≡ x0 -ℤ mult *ℤ coef_below terms (n + 1) j
row_step units new x0 mult terms n j t here below made before =
    let more = sum_below-more n (λ k. if (term_at terms k).var == j then (term_at terms k).coef else pos 0) in
    let next : coef_below terms (n + 1) j ≡ coef_below terms n j +ℤ (if t.var == j then t.coef else pos 0) = more ∙ ap (λ (u : RowTerm). coef_below terms n j +ℤ (if u.var == j then u.coef else pos 0)) (sym here) in
    elim (cases_Bool (t.var == j)) [
      | inl e ↦
          let same : t.var ≡ j = grind (arith, nat_tests) in
          let read : int_at new j ≡ int_at units j -ℤ mult *ℤ t.coef =
          subst (λ (v : ℕ). int_at new v ≡ int_at units v -ℤ mult *ℤ t.coef) same (ap (λ (xs : List ℤ). int_at xs t.var) made ∙ get_or-set_same units t.var (int_at units t.var -ℤ mult *ℤ t.coef) (pos 0) below) in
          let sum : coef_below terms (n + 1) j ≡ coef_below terms n j +ℤ t.coef = next ∙ ap (λ (b : Bool). coef_below terms n j +ℤ (if b then t.coef else pos 0)) e in
          taken (int_at new j) (int_at units j) x0 (mult *ℤ coef_below terms n j) (mult *ℤ t.coef) (mult *ℤ coef_below terms (n + 1) j) read before (ap (λ (z : ℤ). mult *ℤ z) sum ∙ mul_z-add mult (coef_below terms n j) t.coef)
      | inr e ↦
          let other : j ≢ t.var = grind (arith, nat_tests) in
          let read : int_at new j ≡ int_at units j = ap (λ (xs : List ℤ). int_at xs j) made ∙ get_or-set_other units t.var j (int_at units t.var -ℤ mult *ℤ t.coef) (pos 0) other in
          let sum : coef_below terms (n + 1) j ≡ coef_below terms n j = next ∙ (ap (λ (b : Bool). coef_below terms n j +ℤ (if b then t.coef else pos 0)) e ∙ +ℤ_idr (coef_below terms n j)) in
          read ∙ (before ∙ ap (λ (z : ℤ). x0 -ℤ mult *ℤ z) (sym sum))
    ]
  where
    taken : (y x x0 w v next : ℤ) → y ≡ x -ℤ v → x ≡ x0 -ℤ w → next ≡ w +ℤ v → y ≡ x0 -ℤ next
    taken y x x0 w v next e f h = omega (arith, ints)

-- what the first rows take from a unit
abbrev pub worth_below : List ℤ → List Row → ℕ → ℕ → ℤ
worth_below mults rows n j = sum_below n (λ i. int_at mults i *ℤ coef_in (row_at rows i).terms j)

rows_small : (count : ℕ) (mults : List ℤ) (rows : List Row) (n j : ℕ) → RowsFit count rows → length mults ≡ length rows → All (IsWithin (2 ^ 48)) mults → n ≤ length rows
    → IsWithin (n * (2 ^ 48 * 1000000000000)) (worth_below mults rows n j)
rows_small count mults rows zero j fits same range few = (omega (arith, ints), omega (arith, ints))
rows_small count mults rows (suc n) j fits same range few =
    let before = rows_small count mults rows n j fits same range (omega arith) in
    let terms = (row_at rows n).terms in
    let row = fits.each n (row_at [] 0) (omega arith) in
    let terms_few : length terms ≤ 1000000 = omega (arith, get_or-le-sum_by (λ (r : Row). length r.terms) rows n (row_at [] 0) (omega arith), fits.few_terms) in
    let coef = coef_small count terms (length terms) j row.each (omega arith) in
    let wide : IsWithin 1000000000000 (coef_in terms j) = (omega (arith, ints, coef.0), omega (arith, ints, coef.1)) in
    let worth = product_within (2 ^ 48) 1000000000000 (int_at mults n) (coef_in terms j) (range n (pos 0) (omega arith)) wide in
    (omega (arith, ints, before.0, worth.0), omega (arith, ints, before.1, worth.1))

-- a unit while the rows are taken
pub rows_unit : (x0 x : ℤ) (count : ℕ) (mults : List ℤ) (rows : List Row) (n j : ℕ) → RowsFit count rows → length mults ≡ length rows → All (IsWithin (2 ^ 48)) mults → n ≤ length rows
    → IsWithin (2 ^ 64) x0 → x ≡ x0 -ℤ worth_below mults rows n j → IsWithin (2 ^ 102) x
rows_unit x0 x count mults rows n j fits same range few start is =
    let worth = rows_small count mults rows n j fits same range few in
    let most : n ≤ 5000 = omega (arith, fits.few) in
    (omega (arith, ints, start.0, worth.1), omega (arith, ints, start.1, worth.0))

pub rows_step : (x0 x y mult : ℤ) (mults : List ℤ) (rows : List Row) (n j : ℕ) → mult ≡ int_at mults n → x ≡ x0 -ℤ worth_below mults rows n j
    → y ≡ x -ℤ mult *ℤ coef_in (row_at rows n).terms j → y ≡ x0 -ℤ worth_below mults rows (n + 1) j
rows_step x0 x y mult mults rows n j here before taken =
    joined y x x0 (worth_below mults rows n j) (mult *ℤ coef_in (row_at rows n).terms j) (int_at mults n *ℤ coef_in (row_at rows n).terms j) (worth_below mults rows (n + 1) j)
    taken before (ap (λ (m : ℤ). m *ℤ coef_in (row_at rows n).terms j) here) (sum_below-more n (λ i. int_at mults i *ℤ coef_in (row_at rows i).terms j))
  where
    joined : (y x x0 w v u next : ℤ) → y ≡ x -ℤ v → x ≡ x0 -ℤ w → v ≡ u → next ≡ w +ℤ u → y ≡ x0 -ℤ next
    joined y x x0 w v u next e f g h = omega (arith, ints)

-- a list that is made item by item
pub map_pushed : (f : ℕ → ℤ) (n : ℕ) (items new : List ℤ) (x : ℤ) → items ≡ map f (range_with_len 0 n) → new ≡ items ++ x ∷ [] → x ≡ f n → new ≡ map f (range_with_len 0 (n + 1))
map_pushed f n items new x before push is =
    push ∙ ((λ i. before i ++ is i ∷ []) ∙ sym (map-range_with_len_more f 0 n n (omega arith)))

-- the scaled cost of a variable less its multiplier, as code computes it
pub own_told : (cost mult r : ℤ) → IsWithin 1000000000 cost → IsWithin (2 ^ 48) mult → r ≡ scaled cost -ℤ to_z w64 (of_z w64 mult) → to_z w128 (of_z w128 r) ≡ scaled cost -ℤ mult
own_told cost mult r small range is =
    let fits : FitsSigned w64 mult = omega (arith, ints, range.0, range.1) in
    let told : r ≡ scaled cost -ℤ mult = is ∙ ap (λ (m : ℤ). scaled cost -ℤ m) (to_z-of_z w64 mult fits) in
    let wide : FitsSigned w128 r = omega (arith, ints, told, small.0, small.1, range.0, range.1) in
    to_z-of_z w128 r wide ∙ told

pub own_small : (cost mult : ℤ) → IsWithin 1000000000 cost → IsWithin (2 ^ 48) mult → IsWithin (2 ^ 64) (scaled cost -ℤ mult)
own_small cost mult small range = (omega (arith, ints, small.0, range.1), omega (arith, ints, small.1, range.0))

-- what a slice of a whole `Vec` leaves
pub written_back : (n : ℕ) (new items : List ℤ) → n ≡ length items → length new ≡ length items → take n (new ++ drop (length new) items) ≡ new
written_back n new items whole same =
    let none : drop (length new) items ≡ [] = drop_all (length new) items (omega arith) in
    let joined : new ++ drop (length new) items ≡ new = ap (λ (xs : List ℤ). new ++ xs) none ∙ append-nil new in
    ap (take n) joined ∙ take_all n new (omega arith)

-- the own costs of the variables
own_length : (vars : List Var) (mults items : List ℤ) → items ≡ map (λ j. scaled (var_at vars j).cost -ℤ int_at mults j) (range_with_len 0 (length vars)) → length items ≡ length vars
own_length vars mults items made = ap length made ∙ length-map-range_with_len (λ j. scaled (var_at vars j).cost -ℤ int_at mults j) 0 (length vars)

own_at : (vars : List Var) (mults items : List ℤ) (j : ℕ) → items ≡ map (λ j. scaled (var_at vars j).cost -ℤ int_at mults j) (range_with_len 0 (length vars)) → j < length vars
    → int_at items j ≡ scaled (var_at vars j).cost -ℤ int_at mults j
own_at vars mults items j made below =
    ap (λ (xs : List ℤ). int_at xs j) made ∙ get_or-map-range_with_len (λ j. scaled (var_at vars j).cost -ℤ int_at mults j) 0 (length vars) j j (pos 0) below (omega arith)

pub own_within : (vars : List Var) (mults items : List ℤ) → VarsFit vars → length mults ≡ length vars → All (IsWithin (2 ^ 48)) mults
    → items ≡ map (λ j. scaled (var_at vars j).cost -ℤ int_at mults j) (range_with_len 0 (length vars)) → EachBelow (length items) (λ j. IsWithin (2 ^ 64) (int_at items j))
own_within vars mults items fits same range made j below =
    let inside : j < length vars = omega (arith, own_length vars mults items made) in
    subst (IsWithin (2 ^ 64)) (sym (own_at vars mults items j made inside)) (own_small (var_at vars j).cost (int_at mults j) (fits.each j _ inside).cost (range j (pos 0) (omega arith)))

pub rows_fit : (vars : List Var) (mults items : List ℤ) (rows : List Row) → items ≡ map (λ j. scaled (var_at vars j).cost -ℤ int_at mults j) (range_with_len 0 (length vars)) → RowsFit (length vars) rows → RowsFit (length items) rows
rows_fit vars mults items rows made fits = subst (λ (n : ℕ). RowsFit n rows) (sym (own_length vars mults items made)) fits

-- and less what the rows take from them
pub units_made : (m : ModelParts) (mult : Mult) (vars : List Var) (mults : List ℤ) (rows : List Row) (row_mults items new : List ℤ) → vars ≡ m.vars → mults ≡ mult.vars → rows ≡ m.rows → row_mults ≡ mult.rows
    → items ≡ map (λ j. scaled (var_at vars j).cost -ℤ int_at mults j) (range_with_len 0 (length vars)) → length new ≡ length items
    → EachBelow (length items) (λ j. int_at new j ≡ int_at items j -ℤ worth_below row_mults rows (length rows) j) → EachBelow (length items) (λ j. IsWithin (2 ^ 102) (int_at new j)) → AreUnits m mult new
units_made m mult vars mults rows row_mults items new is_vars is_mults is_rows is_row_mults made kept each small =
    let count = own_length vars mults items made in
    let same = ap length is_vars in
    record {
      count = omega (arith, kept, count, same);
      each = λ j below.
          each j (omega arith)
          ∙ (ap (λ (x : ℤ). x -ℤ worth_below row_mults rows (length rows) j) (own_at vars mults items j made (omega arith))
          ∙ (λ i. scaled (var_at (is_vars i) j).cost -ℤ int_at (is_mults i) j -ℤ worth_below (is_row_mults i) (is_rows i) (length (is_rows i)) j));
      small = λ j below. small j (omega arith);
    }
