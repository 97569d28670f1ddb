-- The entries of a column: first those that no cut changes, then those of the cuts, then that of the path count.
use Rattle.std.proofs.Common.{◌≡◌, ℕ, ◌+◌, ◌<◌, ℤ, pos, ◌*ℤ◌, Option, List, [], ◌∷◌, ◌++◌, map, length, sym, ◌∙◌, ap, arith, append_assoc, length-append}
use Rattle.std.specs.Prelude.{slice_index, slice_index_or}
use Rattle.std.specs.List.{range_with_len}
use Rattle.std.proofs.lemmas.List.{ext_get_or, get_or-map, length-map, map-append}
use Rattle.std.proofs.lemmas.List.FromFn.{get_or-map-range_with_len, length-map-range_with_len}
use Rattle.std.proofs.lemmas.Simd.{map-map}
use Rattle.path_graph.specs.First.{EachBelow}
use Rattle.path_graph.specs.Visits.{visit_count, visits_along}
use Rattle.path_graph.proofs.SumLemmas.{sum_below-same}
use Rattle.rank1_cuts.specs.declared.cut.Cut.{Cut}
use Rattle.rank1_cuts.specs.Visits.{coef_of}
use Rattle.route_model.specs.declared.multipliers.Quantity.{Quantity}
use Rattle.route_model.specs.declared.multipliers.Quantity.TheVariants.{Var as OfVar, Row as OfRow, Set as OfSet, Cut as OfCut, Paths as OfPaths}
use Rattle.route_model.specs.declared.parts.RowTerm.{RowTerm}
use Rattle.route_model.specs.Fit.{ModelFits}
use Rattle.route_model.specs.Parts.{ModelParts, graph_in, row_at, term_at}
use Rattle.route_model.specs.Quantities.{uses_in, visits_in}
use Rattle.multipliers.specs.Quantities.{amount, cut_at, quantities, row_along}
use Rattle.column_pool.specs.Amounts.{entries_with, sum_with}
use Rattle.column_pool.specs.Columns.{amounts_of, entries_from, first_entries, first_quantities}
use Rattle.column_pool.proofs.CountLemmas.{list_told}
use Rattle.column_pool.proofs.EntryLemmas.{entries_from-append, entries_of_one, one_at}

-- a list of numbers below a number
abbrev pub below_list : ℕ → (ℕ → ℤ) → List ℤ
below_list n f = map f (range_with_len 0 n)

-- the amounts of variables, rows and packing sets
abbrev pub var_amounts : ModelParts → ℕ → List ℕ → List ℤ
var_amounts m g arcs = below_list (length m.vars) (λ j. pos (uses_in m.maps j g arcs))

abbrev pub row_amounts : ModelParts → ℕ → List ℕ → List ℤ
row_amounts m g arcs = below_list (length m.rows) (λ i. row_along m (row_at m.rows i).terms g arcs)

abbrev pub set_amounts : ModelParts → ℕ → List ℕ → List ℤ
set_amounts m g arcs = below_list m.sets (λ s. pos (visits_in m.graphs s g arcs))

abbrev pub cut_amounts : ModelParts → List Cut → ℕ → List ℕ → List ℤ
cut_amounts m cuts g arcs = below_list (length cuts) (λ c. pos (coef_of (cut_at cuts c) (visits_along (graph_in m.graphs g) arcs)))

abbrev pub first_amounts : ModelParts → ℕ → List ℕ → List ℤ
first_amounts m g arcs = var_amounts m g arcs ++ (row_amounts m g arcs ++ set_amounts m g arcs)

first_told : (m : ModelParts) (cuts : List Cut) (g : ℕ) (arcs : List ℕ) → amounts_of m cuts (first_quantities m) g arcs ≡ first_amounts m g arcs
first_told m cuts g arcs =
    let had : Quantity → ℤ = λ q. amount m cuts q g arcs in
    let vars = map (λ j. OfVar j) (range_with_len 0 (length m.vars)) in
    let rows = map (λ i. OfRow i) (range_with_len 0 (length m.rows)) in
    let sets = map (λ s. OfSet s) (range_with_len 0 m.sets) in
    map-append had vars (rows ++ sets)
    ∙ (λ i. map-map had (λ j. OfVar j) (range_with_len 0 (length m.vars)) i
    ++ (map-append had rows sets
    ∙ (λ k. map-map had (λ i. OfRow i) (range_with_len 0 (length m.rows)) k ++ map-map had (λ s. OfSet s) (range_with_len 0 m.sets) k)) i)

-- those of the cuts and the path counts
rest_told : (m : ModelParts) (cuts : List Cut) (g : ℕ) (arcs : List ℕ)
    → amounts_of m cuts (map (λ c. OfCut c) (range_with_len 0 (length cuts)) ++ map (λ h. OfPaths h) (range_with_len 0 (length m.graphs))) g arcs
    ≡ cut_amounts m cuts g arcs ++ below_list (length m.graphs) (one_at g)
rest_told m cuts g arcs =
    let had : Quantity → ℤ = λ q. amount m cuts q g arcs in
    let all = map (λ c. OfCut c) (range_with_len 0 (length cuts)) in
    let paths = map (λ h. OfPaths h) (range_with_len 0 (length m.graphs)) in
    map-append had all paths
    ∙ (λ i. map-map had (λ c. OfCut c) (range_with_len 0 (length cuts)) i ++ map-map had (λ h. OfPaths h) (range_with_len 0 (length m.graphs)) i)

split_quantities : (m : ModelParts) (cuts : List Cut) → quantities m cuts ≡ first_quantities m ++ (map (λ c. OfCut c) (range_with_len 0 (length cuts)) ++ map (λ h. OfPaths h) (range_with_len 0 (length m.graphs)))
split_quantities m cuts =
    let vars = map (λ j. OfVar j) (range_with_len 0 (length m.vars)) in
    let rows = map (λ i. OfRow i) (range_with_len 0 (length m.rows)) in
    let sets = map (λ s. OfSet s) (range_with_len 0 m.sets) in
    let rest = map (λ c. OfCut c) (range_with_len 0 (length cuts)) ++ map (λ h. OfPaths h) (range_with_len 0 (length m.graphs)) in
    sym (append_assoc vars (rows ++ sets) rest ∙ ap (λ (qs : List Quantity). vars ++ qs) (append_assoc rows sets rest))

-- the entries of variables, rows and packing sets
pub first_entries_told : (m : ModelParts) (g : ℕ) (arcs : List ℕ) → first_entries m g arcs
    ≡ entries_from 0 (var_amounts m g arcs) ++ (entries_from (length m.vars) (row_amounts m g arcs) ++ entries_from (length m.vars + length m.rows) (set_amounts m g arcs))
first_entries_told m g arcs =
    let vars = var_amounts m g arcs in
    let rows = row_amounts m g arcs in
    let sets = set_amounts m g arcs in
    let var_count : length vars ≡ length m.vars = length-map-range_with_len _ 0 (length m.vars) in
    let row_count : length rows ≡ length m.rows = length-map-range_with_len _ 0 (length m.rows) in
    let start : 0 + length vars ≡ length m.vars = omega (arith, var_count) in
    ap (entries_from 0) (first_told m [] g arcs)
    ∙ (entries_from-append 0 vars (rows ++ sets)
    ∙ (λ i. entries_from 0 vars ++ (ap (λ (k : ℕ). entries_from k (rows ++ sets)) start
    ∙ (entries_from-append (length m.vars) rows sets ∙ ap (λ (k : ℕ). entries_from (length m.vars) rows ++ entries_from (length m.vars + k) sets) row_count)) i))

-- the entries of a column
pub column_entries_told : (m : ModelParts) (cuts : List Cut) (g : ℕ) (arcs : List ℕ) (at : ℕ) → at ≡ length m.vars + length m.rows + m.sets → g < length m.graphs
    → entries_from 0 (amounts_of m cuts (quantities m cuts) g arcs)
    ≡ (first_entries m g arcs ++ entries_from at (cut_amounts m cuts g arcs)) ++ entries_from (at + length cuts + g) (pos 1 ∷ [])
column_entries_told m cuts g arcs at is inside =
    let had : Quantity → ℤ = λ q. amount m cuts q g arcs in
    let rest = map (λ c. OfCut c) (range_with_len 0 (length cuts)) ++ map (λ h. OfPaths h) (range_with_len 0 (length m.graphs)) in
    let first = first_amounts m g arcs in
    let coefs = cut_amounts m cuts g arcs in
    let paths = below_list (length m.graphs) (one_at g) in
    let parts : amounts_of m cuts (quantities m cuts) g arcs ≡ first ++ (coefs ++ paths) =
    ap (map had) (split_quantities m cuts) ∙ (map-append had (first_quantities m) rest ∙ (λ i. first_told m cuts g arcs i ++ rest_told m cuts g arcs i)) in
    let count : length first ≡ length m.vars + (length m.rows + m.sets) =
    length-append (var_amounts m g arcs) (row_amounts m g arcs ++ set_amounts m g arcs)
    ∙ (λ i. length-map-range_with_len (λ j. pos (uses_in m.maps j g arcs)) 0 (length m.vars) i
    + (length-append (row_amounts m g arcs) (set_amounts m g arcs)
    ∙ (λ k. length-map-range_with_len (λ r. row_along m (row_at m.rows r).terms g arcs) 0 (length m.rows) k + length-map-range_with_len (λ s. pos (visits_in m.graphs s g arcs)) 0 m.sets k)) i) in
    let start : 0 + length first ≡ at = omega (arith, count, is) in
    let coef_count : length coefs ≡ length cuts = length-map-range_with_len _ 0 (length cuts) in
    ap (entries_from 0) parts
    ∙ (entries_from-append 0 first (coefs ++ paths)
    ∙ ((λ i. sym (ap (entries_from 0) (first_told m [] g arcs)) i ++ (ap (λ (k : ℕ). entries_from k (coefs ++ paths)) start
    ∙ (entries_from-append at coefs paths
    ∙ (λ k. entries_from at coefs ++ (ap (λ (n : ℕ). entries_from (at + n) paths) coef_count ∙ entries_of_one (at + length cuts) g (length m.graphs) inside) k))) i)
    ∙ sym (append_assoc (first_entries m g arcs) (entries_from at coefs) (entries_from (at + length cuts + g) (pos 1 ∷ [])))))

-- a list that is made from the items of another
pub listed : {X : Type 0} (f : X → ℤ) (xs : List X) (d : X) → below_list (length xs) (λ k. f (slice_index_or xs k d)) ≡ map f xs
listed f xs d =
    ext_get_or (pos 0) (below_list (length xs) (λ k. f (slice_index_or xs k d))) (map f xs) (length-map-range_with_len _ 0 (length xs) ∙ sym (length-map xs f))
    (λ k below.
    let inside : k < length xs = omega (arith, below, length-map-range_with_len (λ i. f (slice_index_or xs i d)) 0 (length xs)) in
    get_or-map-range_with_len (λ i. f (slice_index_or xs i d)) 0 (length xs) k k (pos 0) inside (omega arith) ∙ sym (get_or-map f xs k d (pos 0) inside))

-- sums with the same uses
pub sum_with-same : (f h : ℕ → ℕ) (n : ℕ) (terms : List RowTerm) → EachBelow n (λ j. f j ≡ h j) → EachBelow (length terms) (λ k. (term_at terms k).var < n) → sum_with f terms ≡ sum_with h terms
sum_with-same f h n terms same declared =
    sum_below-same (length terms) (λ k. (term_at terms k).coef *ℤ pos (f (term_at terms k).var)) (λ k. (term_at terms k).coef *ℤ pos (h (term_at terms k).var))
    (λ k below. ap (λ (u : ℕ). (term_at terms k).coef *ℤ pos u) (same (term_at terms k).var (declared k below)))

-- what a loop finds of a walk makes its entries
pub entries_found : (m : ModelParts) (g : ℕ) (arcs uses : List ℕ) (visits : List (Option ℕ)) → ModelFits m → length uses ≡ length m.vars → EachBelow (length m.vars) (λ j. slice_index uses j ≡ uses_in m.maps j g arcs)
    → visits ≡ visits_along (graph_in m.graphs g) arcs
    → entries_with m uses visits ≡ first_entries m g arcs
entries_found m g arcs uses visits fits count told seen =
    (λ i. entries_from 0 (vars i) ++ (entries_from (length m.vars) (rows i) ++ entries_from (length m.vars + length m.rows) (below_list m.sets (λ s. pos (visit_count s (seen i))))))
    ∙ sym (first_entries_told m g arcs)
  where
    vars : map (λ n. pos n) uses ≡ var_amounts m g arcs
    vars =
        ap (map (λ (n : ℕ). pos n)) (list_told (λ j. uses_in m.maps j g arcs) uses (length m.vars) count told)
        ∙ map-map (λ (n : ℕ). pos n) (λ j. uses_in m.maps j g arcs) (range_with_len 0 (length m.vars))

    rows : map (λ row. sum_with (slice_index uses) row.terms) m.rows ≡ row_amounts m g arcs
    rows =
        ext_get_or (pos 0) (map (λ row. sum_with (slice_index uses) row.terms) m.rows) (row_amounts m g arcs)
        (length-map m.rows (λ row. sum_with (slice_index uses) row.terms) ∙ sym (length-map-range_with_len (λ i. row_along m (row_at m.rows i).terms g arcs) 0 (length m.rows)))
        (λ i below.
        let inside : i < length m.rows = omega (arith, below, length-map m.rows (λ row. sum_with (slice_index uses) row.terms)) in
        get_or-map (λ row. sum_with (slice_index uses) row.terms) m.rows i (row_at [] 0) (pos 0) inside
        ∙ (sum_with-same (slice_index uses) (λ j. uses_in m.maps j g arcs) (length m.vars) (row_at m.rows i).terms told (λ k there. ((fits.rows.each i (row_at [] 0) inside).each k _ there).var)
        ∙ sym (get_or-map-range_with_len (λ r. row_along m (row_at m.rows r).terms g arcs) 0 (length m.rows) i i (pos 0) inside (omega arith))))
