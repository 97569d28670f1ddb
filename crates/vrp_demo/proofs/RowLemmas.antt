-- The rows fit.
use Rattle.std.proofs.Common.{◌≡◌, ℕ, zero, suc, ◌+◌, ◌<◌, ◌≤◌, pos, Bool, true, false, cond, List, [], ◌∷◌, length, map, get_or, refl, sym, ap, ◌∙◌, arith, unsigned_abs}
use Rattle.std.specs.Prelude.{filter, sum_by, count_by, nat_lt, ◌==◌, if◌then◌else◌}
use Rattle.std.specs.List.{range_with_len}
use Rattle.std.specs.List.Sorted.{IsStrictlyIncreasing}
use Rattle.std.proofs.lemmas.Int.{ints}
use Rattle.std.proofs.lemmas.Bool.Decides.{nat_tests}
use Rattle.std.proofs.lemmas.List.{length-map, get_or-map}
use Rattle.std.proofs.lemmas.List.Elements.{All-map, All-filter}
use Rattle.std.proofs.lemmas.List.Kept.{IsStrictlyIncreasing-filter}
use Rattle.std.proofs.lemmas.List.Sums.{sum_by-cons, sum_by-le-sum_by, length-filter, count_by-le-length}
use Rattle.std.proofs.lemmas.List.FromFn.{length-range_with_len, get_or-range_with_len, length-map-range_with_len}
use Rattle.path_graph.specs.declared.parts.GraphArc.{GraphArc}
use Rattle.path_graph.specs.Parts.{arc_at, arcs_into}
use Rattle.route_model.specs.declared.parts.RowTerm.{RowTerm}
use Rattle.route_model.specs.declared.parts.Row.{Row}
use Rattle.route_model.specs.Fit.{TermFits, Ascends, RowFits, row_coef, RowsFit}
use Rattle.vrp_demo.specs.Generated.{term_of, row_into, rows_over}
use Rattle.vrp_demo.proofs.PairLemmas.{all_of_range}

-- numbers with one key, and those with a lesser one
one_key : (k a : ℕ) → cond (nat_lt k a) 1 0 + cond (k == a) 1 0 ≤ cond (nat_lt k (a + 1)) 1 0
one_key k a = grind (arith, nat_tests)

one_key_more : (key : ℕ → ℕ) (a : ℕ) (xs : List ℕ) → count_by (λ x. nat_lt (key x) a) xs + count_by (λ x. key x == a) xs ≤ count_by (λ x. nat_lt (key x) (a + 1)) xs
one_key_more key a [] = omega arith
one_key_more key a (x ∷ xs) =
    let below = sum_by-cons (λ (y : ℕ). cond (nat_lt (key y) a) 1 0) x xs in
    let here = sum_by-cons (λ (y : ℕ). cond (key y == a) 1 0) x xs in
    let both = sum_by-cons (λ (y : ℕ). cond (nat_lt (key y) (a + 1)) 1 0) x xs in
    omega (arith, below, here, both, one_key (key x) a, one_key_more key a xs)

-- the numbers with keys of a range are no more than all
keys_counted : (key : ℕ → ℕ) (xs : List ℕ) (a n : ℕ) → sum_by (λ i. length (filter (λ x. key x == i) xs)) (range_with_len a n) + count_by (λ x. nat_lt (key x) a) xs ≤ length xs
keys_counted key xs a zero = omega (arith, count_by-le-length (λ x. nat_lt (key x) a) xs)
keys_counted key xs a (suc n) =
    let first = sum_by-cons (λ i. length (filter (λ x. key x == i) xs)) a (range_with_len (a + 1) n) in
    omega (arith, first, length-filter (λ x. key x == a) xs, one_key_more key a xs, keys_counted key xs (a + 1) n)

few_into : (arcs : List GraphArc) (a n : ℕ) → sum_by (λ v. length (arcs_into arcs v)) (range_with_len a n) ≤ length arcs
few_into arcs a n =
    let counted = keys_counted (λ k. (arc_at arcs k).head) (range_with_len 0 (length arcs)) a n in
    omega (arith, counted, length-range_with_len 0 (length arcs))

sum_by-map : {X Y : Type 0} (g : Y → ℕ) (f : X → Y) (xs : List X) → sum_by g (map f xs) ≡ sum_by (λ x. g (f x)) xs
sum_by-map g f [] = refl
sum_by-map g f (x ∷ xs) =
    sum_by-cons g (f x) (map f xs) ∙ (ap (λ n. g (f x) + n) (sum_by-map g f xs) ∙ sym (sum_by-cons (λ y. g (f y)) x xs))

-- a sum over the rows that is at most the number of their terms
small_over_rows : (size : ℕ) (arcs : List GraphArc) (g : Row → ℕ) → ((v : ℕ) → g (row_into arcs v) ≤ length (arcs_into arcs v)) → sum_by g (rows_over size arcs) ≤ length arcs
small_over_rows size arcs g each =
    let mapped = sum_by-map g (row_into arcs) (range_with_len 1 size) in
    let less = sum_by-le-sum_by (λ v. g (row_into arcs v)) (λ v. length (arcs_into arcs v)) (range_with_len 1 size) each in
    omega (arith, mapped, less, few_into arcs 1 size)

one_coef : (b : Bool) → (if b then unsigned_abs (pos 1) else 0) ≤ 1
one_coef true = omega arith
one_coef false = omega arith

coef_small : (j : ℕ) (xs : List ℕ) → row_coef j (map term_of xs) ≤ length xs
coef_small j [] = omega arith
coef_small j (x ∷ xs) =
    let first = sum_by-cons (λ (t : RowTerm). if t.var == j then unsigned_abs t.coef else 0) (term_of x) (map term_of xs) in
    omega (arith, first, one_coef (x == j), coef_small j xs)

-- the arcs into a vertex ascend
range_increases : (n : ℕ) → IsStrictlyIncreasing (range_with_len 0 n)
range_increases n k within =
    let below : k + 1 < n = omega (arith, within, length-range_with_len 0 n) in
    omega (arith, get_or-range_with_len 0 n k 0 (omega arith), get_or-range_with_len 0 n (k + 1) 0 below)

terms_ascend : (xs : List ℕ) → IsStrictlyIncreasing xs → Ascends (λ (t : RowTerm). t.var) (map term_of xs)
terms_ascend xs increases k d within =
    let inside : k + 1 < length xs = omega (arith, within, length-map xs term_of) in
    let here = ap (λ (t : RowTerm). t.var) (get_or-map term_of xs k 0 d (omega arith)) in
    let next = ap (λ (t : RowTerm). t.var) (get_or-map term_of xs (k + 1) 0 d inside) in
    omega (arith, here, next, increases k inside)

row_fits : (count : ℕ) (arcs : List GraphArc) (v : ℕ) → length arcs ≡ count → RowFits count (row_into arcs v)
row_fits count arcs v long =
    let into : ℕ → Bool = λ a. (arc_at arcs a).head == v in
    let P : ℕ → Type 0 = λ a. TermFits count (term_of a) in
    record {
      sides =
          record { low_side = (omega (arith, ints), omega (arith, ints)); high_side = (omega (arith, ints), omega (arith, ints)); order = omega (arith, ints) };
      each = All-map (TermFits count) term_of (arcs_into arcs v)
          (All-filter into P (range_with_len 0 (length arcs))
          (all_of_range P 0 (length arcs) (λ a low below. record { var = omega arith; coef = (omega (arith, ints), omega (arith, ints)) })));
      ascend = terms_ascend (arcs_into arcs v) (IsStrictlyIncreasing-filter into (range_with_len 0 (length arcs)) (range_increases (length arcs)));
    }

pub rows_fit : (size count : ℕ) (arcs : List GraphArc) → size ≤ 100 → length arcs ≡ count → count ≤ 10100 → RowsFit count (rows_over size arcs)
rows_fit size count arcs small long few =
    let rows = length-map-range_with_len (row_into arcs) 1 size in
    let terms = small_over_rows size arcs (λ row. length row.terms) (λ v. omega (arith, length-map (arcs_into arcs v) term_of)) in
    record {
      few = omega (arith, rows);
      each = All-map (RowFits count) (row_into arcs) (range_with_len 1 size) (λ k d within. row_fits count arcs (get_or (range_with_len 1 size) k d) long);
      few_terms = omega (arith, terms);
      coefs = λ j within. omega (arith, small_over_rows size arcs (λ row. row_coef j row.terms) (λ v. coef_small j (arcs_into arcs v)));
    }
