-- Steps of the loops that add terms up.
use Rattle.std.proofs.Common.{◌≡◌, ℕ, suc, ◌∷◌, ◌+◌, ◌*◌, ◌^◌, ◌≤◌, ℤ, pos, neg_ℤ, ◌+ℤ◌, ◌≤ℤ◌, ◌<◌, [], All, FitsSigned, to_z, of_z, w64, Option, Some, List, length, sym, ◌∙◌, ap, subst, refl, inl, inr, arith}
use Rattle.std.specs.Prelude.{IsSome, slice_index, sum_by, unsigned_abs}
use Rattle.std.proofs.lemmas.List.Sums.{sum_by-cons}
use Rattle.std.specs.Int.{w128}
use Rattle.std.proofs.lemmas.Bool.{cases_lt}
use Rattle.std.proofs.lemmas.Int.{ints, to_z-of_z}
use Rattle.std.proofs.lemmas.List.{get_or_default}
use Rattle.path_graph.specs.Within.{IsWithin}
use Rattle.path_graph.proofs.SumLemmas.{IsSumWithin, signed_loop_step, within_abs}
use Rattle.path_graph.specs.First.{EachBelow}
use Rattle.path_graph.specs.Fit.{int_at}
use Rattle.path_graph.specs.Sums.{sum_below}
use Rattle.rank1_cuts.specs.declared.cut.Cut.{Cut}
use Rattle.rank1_cuts.specs.Fit.{right_side_of}
use Rattle.path_graph.specs.Walk.{GraphParts}
use Rattle.route_model.specs.declared.parts.Row.{Row}
use Rattle.route_model.specs.declared.parts.Var.{Var}
use Rattle.route_model.specs.Fit.{ModelFits, VarFits}
use Rattle.route_model.specs.Parts.{ModelParts, graph_in, row_at, var_at}
use Rattle.route_model.specs.declared.places.Boxes.{Boxes}
use Rattle.route_model.specs.declared.multipliers.Mult.{Mult}
use Rattle.route_model.specs.declared.multipliers.Quantity.TheVariants.{Var as OfVar, Row as OfRow, Set as OfSet, Cut as OfCut, Paths as OfPaths}
use Rattle.route_model.specs.declared.places.Span.{Span}
use Rattle.multipliers.specs.Quantities.{AreDefined, base, cut_at, term_of}
use Rattle.route_model.specs.Terms.{Sides, sides_of, sides_of_row, term, up_to, or_zero}
use Rattle.route_model.specs.Places.{BoxesFit, IsPartOf, path_span, span_at, var_span}
use Rattle.multipliers.specs.Ranges.{IsNear, PathsFit}
use Rattle.multipliers.proofs.DualityLemmas.{all_quantities, defined_in}
use Rattle.multipliers.proofs.PricedLemmas.{over_quantities}

-- a multiplier as code reads it
pub term_read : (m : ℤ) (sides : Sides) → IsWithin (2 ^ 48) m → term (to_z w64 (of_z w64 m)) sides ≡ term m sides
term_read m sides range =
    let fits : FitsSigned w64 m = omega (arith, ints, range.0, range.1) in
    ap (λ (k : ℤ). term k sides) (to_z-of_z w64 m fits)

pub term_step : (f : ℕ → ℤ) (n : ℕ) (total r next : ℤ) → n ≤ 30000 → IsSumWithin n f (n * (2 ^ 48 * 1000000000000)) total → r ≡ f n → IsWithin (2 ^ 48 * 1000000000000) r
    → next ≡ total +ℤ to_z w128 (of_z w128 r) → IsSumWithin (n + 1) f ((n + 1) * (2 ^ 48 * 1000000000000)) (to_z w128 (of_z w128 next))
term_step f n total r next few before is small made =
    let fits_r : FitsSigned w128 r = omega (arith, ints, small.0, small.1) in
    let told : next ≡ total +ℤ r = made ∙ ap (λ (z : ℤ). total +ℤ z) (to_z-of_z w128 r fits_r) in
    let fits_next : FitsSigned w128 next = omega (arith, ints, told, small.0, small.1, before.low, before.high) in
    signed_loop_step w128 n f (n * (2 ^ 48 * 1000000000000)) (2 ^ 48 * 1000000000000) ((n + 1) * (2 ^ 48 * 1000000000000)) total r next before fits_r fits_next is small (omega arith) made

-- one more term is defined
pub defined_more : (f : ℕ → Option ℤ) (n : ℕ) (x : ℤ) → EachBelow n (λ k. IsSome (f k)) → Some x ≡ f n → EachBelow (n + 1) (λ k. IsSome (f k))
defined_more f n x before is k below =
    elim (cases_lt k n) [
      | inl less ↦ before k less
      | inr least ↦ let same : n ≡ k = omega arith in subst (λ (i : ℕ). IsSome (f i)) same (subst IsSome is refl)
    ]

-- the sum of the terms of each kind, as code tells it
pub spans_told : (t : ℤ) (mults mults_of : List ℤ) (spans spans_of : List Span) (n : ℕ) → mults ≡ mults_of → spans ≡ spans_of → length spans_of ≡ n
    → t ≡ sum_below (length spans) (λ k. or_zero (term (int_at mults k) (sides_of (span_at spans k)))) → t ≡ sum_below n (λ k. or_zero (term (int_at mults_of k) (sides_of (span_at spans_of k))))
spans_told t mults mults_of spans spans_of n is_mults is_spans count told =
    told ∙ ((λ i. sum_below (length (is_spans i)) (λ k. or_zero (term (int_at (is_mults i) k) (sides_of (span_at (is_spans i) k)))))
    ∙ ap (λ (c : ℕ). sum_below c (λ k. or_zero (term (int_at mults_of k) (sides_of (span_at spans_of k))))) count)

pub rows_told : (t : ℤ) (mults mults_of : List ℤ) (rows rows_of : List Row) → mults ≡ mults_of → rows ≡ rows_of
    → t ≡ sum_below (length rows) (λ i. or_zero (term (int_at mults i) (sides_of_row (row_at rows i)))) → t ≡ sum_below (length rows_of) (λ i. or_zero (term (int_at mults_of i) (sides_of_row (row_at rows_of i))))
rows_told t mults mults_of rows rows_of is_mults is_rows told = told ∙ (λ i. sum_below (length (is_rows i)) (λ k. or_zero (term (int_at (is_mults i) k) (sides_of_row (row_at (is_rows i) k)))))

pub rows_defined : (mults mults_of : List ℤ) (rows rows_of : List Row) → mults ≡ mults_of → rows ≡ rows_of
    → EachBelow (length rows) (λ i. IsSome (term (int_at mults i) (sides_of_row (row_at rows i)))) → EachBelow (length rows_of) (λ i. IsSome (term (int_at mults_of i) (sides_of_row (row_at rows_of i))))
rows_defined mults mults_of rows rows_of is_mults is_rows each =
    subst (λ (ms : List ℤ). EachBelow (length rows_of) (λ i. IsSome (term (int_at ms i) (sides_of_row (row_at rows_of i))))) is_mults
    (subst (λ (rs : List Row). EachBelow (length rs) (λ i. IsSome (term (int_at mults i) (sides_of_row (row_at rs i))))) is_rows each)

pub sets_told : (t : ℤ) (mults mults_of : List ℤ) (n : ℕ) → mults ≡ mults_of → length mults_of ≡ n → t ≡ sum_below (length mults) (λ s. or_zero (term (int_at mults s) (up_to 1))) → t ≡ sum_below n (λ s. or_zero (term (int_at mults_of s) (up_to 1)))
sets_told t mults mults_of n is_mults count told =
    told ∙ ((λ i. sum_below (length (is_mults i)) (λ s. or_zero (term (int_at (is_mults i) s) (up_to 1)))) ∙ ap (λ (c : ℕ). sum_below c (λ s. or_zero (term (int_at mults_of s) (up_to 1)))) count)

pub cuts_told : (t : ℤ) (mults mults_of : List ℕ) (cuts : List Cut) → mults ≡ mults_of → t ≡ sum_below (length cuts) (λ c. or_zero (term (neg_ℤ (pos (slice_index mults c))) (up_to (right_side_of (cut_at cuts c)))))
    → t ≡ sum_below (length cuts) (λ c. or_zero (term (neg_ℤ (pos (slice_index mults_of c))) (up_to (right_side_of (cut_at cuts c)))))
cuts_told t mults mults_of cuts is_mults told = told ∙ (λ i. sum_below (length cuts) (λ c. or_zero (term (neg_ℤ (pos (slice_index (is_mults i) c))) (up_to (right_side_of (cut_at cuts c))))))

-- their sum is the base
abbrev wide : ℤ → ℤ
wide x = to_z w128 (of_z w128 x)

read : (x : ℤ) → IsWithin (2 ^ 104) x → wide x ≡ x
read x small = let fits : FitsSigned w128 x = omega (arith, ints, small.0, small.1) in to_z-of_z w128 x fits

pub base_told : (m : ModelParts) (cuts : List Cut) (boxes : Boxes) (mult : Mult) (t vars rows sets cut paths : ℤ)
    → IsWithin (2 ^ 104) vars → IsWithin (2 ^ 104) rows → IsWithin (2 ^ 104) sets → IsWithin (2 ^ 104) cut → IsWithin (2 ^ 104) paths
    → vars ≡ sum_below (length m.vars) (λ j. or_zero (term_of m cuts boxes mult (OfVar j))) → rows ≡ sum_below (length m.rows) (λ i. or_zero (term_of m cuts boxes mult (OfRow i)))
    → sets ≡ sum_below m.sets (λ s. or_zero (term_of m cuts boxes mult (OfSet s))) → cut ≡ sum_below (length cuts) (λ c. or_zero (term_of m cuts boxes mult (OfCut c)))
    → paths ≡ sum_below (length m.graphs) (λ g. or_zero (term_of m cuts boxes mult (OfPaths g)))
    → t ≡ wide vars +ℤ (wide rows +ℤ (wide sets +ℤ (wide cut +ℤ wide paths))) → wide t ≡ base m cuts boxes mult
base_told m cuts boxes mult t vars rows sets cut paths near_v near_r near_s near_c near_p is_v is_r is_s is_c is_p told =
    let whole : t ≡ vars +ℤ (rows +ℤ (sets +ℤ (cut +ℤ paths))) = told ∙ (λ i. read vars near_v i +ℤ (read rows near_r i +ℤ (read sets near_s i +ℤ (read cut near_c i +ℤ read paths near_p i)))) in
    let fits : FitsSigned w128 t = omega (arith, ints, whole, near_v.0, near_v.1, near_r.0, near_r.1, near_s.0, near_s.1, near_c.0, near_c.1, near_p.0, near_p.1) in
    to_z-of_z w128 t fits ∙ (whole ∙ ((λ i. is_v i +ℤ (is_r i +ℤ (is_s i +ℤ (is_c i +ℤ is_p i)))) ∙ sym (over_quantities m cuts (λ q. or_zero (term_of m cuts boxes mult q)))))

-- boxes within the model's are near 0
near_in : (n : ℕ) (whole span : Span) → pos 0 ≤ℤ whole.low → whole.high ≤ℤ pos n → n ≤ 1000000 → IsPartOf whole span → IsNear span
near_in n whole span low high few part =
    let l = part.0 in
    let o = part.1 in
    let h = part.2 in
    ((omega (arith, ints), omega (arith, ints)), (omega (arith, ints), omega (arith, ints)))

all_near : (spans : List Span) (n : ℕ) → length spans ≡ n → EachBelow n (λ k. IsNear (span_at spans k)) → All IsNear spans
all_near spans n count each k d below =
    let inside : k < n = omega (arith, count, below) in
    subst IsNear (get_or_default spans k (span_at [] 0) d below) (each k inside)

pub vars_near : (m : ModelParts) (boxes : Boxes) → ModelFits m → BoxesFit m boxes → All IsNear boxes.vars
vars_near m boxes fits are = all_near boxes.vars (length m.vars) are.vars
    (λ j below.
    let var : Var = var_at m.vars j in
    let var_fits : VarFits var = fits.vars.each j (var_at [] 0) below in
    near_in 1000000 (var_span var) (span_at boxes.vars j) var_fits.low var_fits.high (omega arith) (are.each_var j below))

pub paths_near : (m : ModelParts) (boxes : Boxes) → ModelFits m → BoxesFit m boxes → All IsNear boxes.paths
paths_near m boxes fits are = all_near boxes.paths (length m.graphs) are.paths
    (λ g below.
    let graph : GraphParts = graph_in m.graphs g in
    let most : graph.ends.high ≤ 4096 = (fits.graphs.each g (graph_in [] 0) below).graph.fits.ends_fit.most_paths in
    near_in 4096 (path_span graph) (span_at boxes.paths g) (omega (arith, ints)) (omega (arith, ints, most)) (omega arith) (are.each_path g below))

-- path counts within the model's sum to at most 4,096
high_within : (whole : ℕ) (span : Span) → span.low ≤ℤ span.high → pos 0 ≤ℤ span.low → span.high ≤ℤ pos whole → unsigned_abs span.high ≤ whole
high_within whole span order low high = within_abs whole span.high (omega (arith, ints, order, low), high)

highs_few : (graphs : List GraphParts) (spans : List Span) → length spans ≡ length graphs → EachBelow (length graphs) (λ g. IsPartOf (path_span (graph_in graphs g)) (span_at spans g))
    → sum_by (λ (span : Span). unsigned_abs span.high) spans ≤ sum_by (λ (g : GraphParts). g.ends.high) graphs
highs_few [] [] count each = omega arith
highs_few [] (span ∷ spans) count each = absurd (omega (arith, count))
highs_few (g ∷ graphs) [] count each = absurd (omega (arith, count))
highs_few (g ∷ graphs) (span ∷ spans) count each =
    let here = each 0 (omega arith) in
    let rest = highs_few graphs spans (omega (arith, count)) (λ k l. each (suc k) (omega (arith, l))) in
    let high = high_within g.ends.high span here.1 (omega (arith, ints, here.0)) here.2 in
    let one = sum_by-cons (λ (s : Span). unsigned_abs s.high) span spans in
    let other = sum_by-cons (λ (h : GraphParts). h.ends.high) g graphs in
    omega (arith, one, other, rest, high)

all_paths : (graphs : List GraphParts) (spans : List Span) → length spans ≡ length graphs → EachBelow (length graphs) (λ g. IsPartOf (path_span (graph_in graphs g)) (span_at spans g))
    → All (λ (span : Span). (pos 0 ≤ℤ span.low) × (span.low ≤ℤ span.high)) spans
all_paths graphs spans count each k d below =
    let here = each k (omega (arith, count, below)) in
    subst (λ (span : Span). (pos 0 ≤ℤ span.low) × (span.low ≤ℤ span.high)) (get_or_default spans k (span_at [] 0) d below) (omega (arith, ints, here.0), here.1)

pub paths_fit : (m : ModelParts) (boxes : Boxes) → ModelFits m → BoxesFit m boxes → PathsFit boxes.paths
paths_fit m boxes fits are = record {
  graphs = omega (arith, are.paths, fits.graphs.few);
  each = all_paths m.graphs boxes.paths are.paths are.each_path;
  few = omega (arith, highs_few m.graphs boxes.paths are.paths are.each_path, fits.graphs.few_paths);
}

-- where no row needs an open side, nothing does
pub all_defined : (m : ModelParts) (cuts : List Cut) (boxes : Boxes) (mult : Mult) → EachBelow (length m.rows) (λ i. IsSome (term_of m cuts boxes mult (OfRow i))) → AreDefined m cuts boxes mult
all_defined m cuts boxes mult rows =
    all_quantities m cuts (λ q. IsSome (term_of m cuts boxes mult q))
    (λ j l. defined_in (int_at mult.vars j) (span_at boxes.vars j).low (span_at boxes.vars j).high) rows
    (λ s l. defined_in (int_at mult.sets s) (pos 0) (pos 1)) (λ c l. defined_in (neg_ℤ (pos (slice_index mult.cuts c))) (pos 0) (pos (right_side_of (cut_at cuts c))))
    (λ g l. defined_in (int_at mult.paths g) (span_at boxes.paths g).low (span_at boxes.paths g).high)

-- five sums together
pub five_small : (t a b c d e : ℤ) → IsWithin (2 ^ 104) a → IsWithin (2 ^ 104) b → IsWithin (2 ^ 104) c → IsWithin (2 ^ 104) d → IsWithin (2 ^ 104) e → t ≡ a +ℤ (b +ℤ (c +ℤ (d +ℤ e))) → IsWithin (2 ^ 107) t
five_small t a b c d e p q r s u is = (omega (arith, ints, is, p.0, q.0, r.0, s.0, u.0), omega (arith, ints, is, p.1, q.1, r.1, s.1, u.1))
