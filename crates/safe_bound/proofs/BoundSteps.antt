-- Steps of the loop that adds the terms of graphs up. A bound on each term does not suffice: it is the number of paths of
-- all graphs that keeps the sum in 128 bits.
use Rattle.std.proofs.Common.{false, ◌≡◌, ℕ, zero, suc, ◌+◌, ◌*◌, ◌^◌, ◌<◌, ◌≤◌, ◌==◌, ℤ, pos, negsuc, ◌+ℤ◌, ◌≤ℤ◌, FitsSigned, to_z, of_z, Option, None, Some, List, [], All, length, take, unsigned_abs, mul-add, mul-le-mul_left, ap, subst, sym, ◌∙◌, arith}
use Rattle.std.specs.Prelude.{if◌then◌else◌, sum_by}
use Rattle.std.specs.Int.{w128}
use Rattle.std.proofs.lemmas.Int.{clamps, ints, to_z-of_z}
use Rattle.std.proofs.lemmas.List.{take_all}
use Rattle.std.proofs.lemmas.List.Sums.{sum_by_more, sum_by_more_le}
use Rattle.path_graph.specs.Within.{IsWithin}
use Rattle.path_graph.proofs.SumLemmas.{product_within, sum_below-more, within_abs}
use Rattle.route_model.specs.declared.places.Span.{Span}
use Rattle.route_model.specs.Places.{span_at}
use Rattle.multipliers.specs.Ranges.{PathsFit}
use Rattle.safe_bound.specs.Bounds.{all_above, are_possible_but, graph_term, is_none, least_at, others, terms_but}
use Rattle.safe_bound.proofs.BoundLemmas.{some_paths}
use Rattle.safe_bound.specs.Promise.{IsCountBox, IsLeastNear}

end_near : (low high : ℤ) → pos 0 ≤ℤ low → low ≤ℤ high → IsWithin (unsigned_abs high) low × IsWithin (unsigned_abs high) high
end_near low (pos h) some order = ((omega (arith, ints), omega (arith, ints)), (omega (arith, ints), omega (arith, ints)))
end_near low (negsuc h) some order = absurd (omega (arith, ints))

pub graph_term-near : (least : Option ℤ) (span : Span) → IsLeastNear least → IsCountBox span → IsWithin (2 ^ 112 * unsigned_abs span.high) (graph_term least span)
graph_term-near None span near fits = (omega (arith, ints), omega (arith, ints))
graph_term-near (Some (pos zero)) span near fits = (omega (arith, ints), omega (arith, ints))
graph_term-near (Some (pos (suc n))) span near fits = product_within (2 ^ 112) (unsigned_abs span.high) (pos (suc n)) span.low near (end_near span.low span.high fits.low fits.order).0
graph_term-near (Some (negsuc n)) span near fits = product_within (2 ^ 112) (unsigned_abs span.high) (negsuc n) span.high near (end_near span.low span.high fits.low fits.order).1

abbrev pub high_of : Span → ℕ
high_of span = unsigned_abs span.high

-- a box of path counts that fit
pub count_box : (spans : List Span) (g : ℕ) → PathsFit spans → g < length spans → IsCountBox (span_at spans g)
count_box spans g fits below =
    let span : Span = span_at spans g in
    let each = fits.each g (span_at [] 0) below in
    let few : sum_by high_of (take g spans) + high_of span ≤ 4096 = omega (arith, sum_by_more_le high_of spans g (span_at [] 0) below, fits.few) in
    let near = (end_near span.low span.high each.0 each.1).1 in
    record { low = each.0; order = each.1; high = (omega (arith, ints, near.0, few), omega (arith, ints, near.1, few)) }

-- the sum over the graphs so far
pub record IsTermsSoFar (spans : List Span) (leasts : List (Option ℤ)) (but n : ℕ) (total : ℤ) : Type 0 where
  pub sum : total ≡ terms_but n spans leasts but
  pub near : IsWithin (2 ^ 112 * sum_by high_of (take n spans)) total

-- all terms up to the next graph
next_most : (spans : List Span) (n : ℕ) → PathsFit spans → n < length spans → 2 ^ 112 * sum_by high_of (take n spans) + 2 ^ 112 * high_of (span_at spans n) ≤ 2 ^ 124
next_most spans n fits below =
    let few : sum_by high_of (take n spans) + high_of (span_at spans n) ≤ 4096 = omega (arith, sum_by_more_le high_of spans n (span_at [] 0) below, fits.few) in
    let whole : 2 ^ 112 * (sum_by high_of (take n spans) + high_of (span_at spans n)) ≤ 2 ^ 112 * 4096 = mul-le-mul_left (2 ^ 112) few in
    subst (λ (k : ℕ). k ≤ 2 ^ 124) (mul-add (2 ^ 112) (sum_by high_of (take n spans)) (high_of (span_at spans n))) whole

pub terms_fit : (spans : List Span) (leasts : List (Option ℤ)) (but n : ℕ) (total r : ℤ) → PathsFit spans → n < length spans → IsTermsSoFar spans leasts but n total
    → IsWithin (2 ^ 112 * high_of (span_at spans n)) r → FitsSigned w128 (total +ℤ to_z w128 (of_z w128 r))
terms_fit spans leasts but n total r fits below before near =
    let most = next_most spans n fits below in
    let fits_r : FitsSigned w128 r = omega (arith, ints, near.0, near.1, most) in
    let told : to_z w128 (of_z w128 r) ≡ r = to_z-of_z w128 r fits_r in
    omega (arith, ints, told, near.0, near.1, most, before.near.0, before.near.1)

pub terms_step : (spans : List Span) (leasts : List (Option ℤ)) (but n : ℕ) (total r next : ℤ) → PathsFit spans → n < length spans → IsTermsSoFar spans leasts but n total
    → r ≡ (if n == but then pos 0 else graph_term (least_at leasts n) (span_at spans n)) → IsWithin (2 ^ 112 * high_of (span_at spans n)) r
    → next ≡ total +ℤ to_z w128 (of_z w128 r) → IsTermsSoFar spans leasts but (n + 1) (to_z w128 (of_z w128 next))
terms_step spans leasts but n total r next fits below before is near made =
    let most = next_most spans n fits below in
    let fits_r : FitsSigned w128 r = omega (arith, ints, near.0, near.1, most) in
    let told : next ≡ total +ℤ r = made ∙ ap (λ (z : ℤ). total +ℤ z) (to_z-of_z w128 r fits_r) in
    let fits_next : FitsSigned w128 next = omega (arith, ints, told, near.0, near.1, most, before.near.0, before.near.1) in
    let read : to_z w128 (of_z w128 next) ≡ total +ℤ r = to_z-of_z w128 next fits_next ∙ told in
    let highs = ap (λ (k : ℕ). 2 ^ 112 * k) (sum_by_more high_of spans n (span_at [] 0) below) ∙ mul-add (2 ^ 112) (sum_by high_of (take n spans)) (high_of (span_at spans n)) in
    record {
      sum = joined (to_z w128 (of_z w128 next)) total r _ _ _ read before.sum is (sum_below-more n (λ g. if g == but then pos 0 else graph_term (least_at leasts g) (span_at spans g)));
      near = (omega (arith, ints, read, before.near.0, near.0, highs), omega (arith, ints, read, before.near.1, near.1, highs));
    }
  where
    joined : (y t r s f next : ℤ) → y ≡ t +ℤ r → t ≡ s → r ≡ f → next ≡ s +ℤ f → y ≡ next
    joined y t r s f next e g h k = omega (arith, ints)

-- the whole sum
pub terms_range : (spans : List Span) (leasts : List (Option ℤ)) (but : ℕ) (total : ℤ) → PathsFit spans → IsTermsSoFar spans leasts but (length spans) total → IsWithin (2 ^ 124) total
terms_range spans leasts but total fits all =
    let whole : sum_by high_of (take (length spans) spans) ≤ 4096 = omega (arith, ap (sum_by high_of) (take_all (length spans) spans (omega arith)), fits.few) in
    let most : 2 ^ 112 * sum_by high_of (take (length spans) spans) ≤ 2 ^ 112 * 4096 = mul-le-mul_left (2 ^ 112) whole in
    (omega (arith, ints, all.near.0, most), omega (arith, ints, all.near.1, most))

-- the box of the other paths, and the term over it
pub others_fit : (span : Span) → IsCountBox span → pos 1 ≤ℤ span.high → IsCountBox (others span)
others_fit span fits some = record {
  low = omega (arith, ints, clamps);
  order = omega (arith, ints, clamps, fits.order, some);
  high = (omega (arith, ints, some), omega (arith, ints, fits.high.1));
}

pub own_near : (least : Option ℤ) (span : Span) → IsLeastNear least → IsCountBox span → IsWithin (2 ^ 124) (graph_term least span)
own_near least span near fits =
    let term = graph_term-near least span near fits in
    let high = within_abs 4096 span.high fits.high in
    let most : 2 ^ 112 * unsigned_abs span.high ≤ 2 ^ 112 * 4096 = mul-le-mul_left (2 ^ 112) high in
    (omega (arith, ints, term.0, most), omega (arith, ints, term.1, most))

-- a sum of two as code makes it
pub sum_told : (base t r : ℤ) → IsWithin (2 ^ 107) base → IsWithin (2 ^ 124) t → r ≡ to_z w128 (of_z w128 base) +ℤ to_z w128 (of_z w128 t) → to_z w128 (of_z w128 r) ≡ base +ℤ t
sum_told base t r near_b near_t is =
    let fits_b : FitsSigned w128 base = omega (arith, ints, near_b.0, near_b.1) in
    let fits_t : FitsSigned w128 t = omega (arith, ints, near_t.0, near_t.1) in
    let told : r ≡ base +ℤ t = is ∙ (λ i. to_z-of_z w128 base fits_b i +ℤ to_z-of_z w128 t fits_t i) in
    let fits_r : FitsSigned w128 r = omega (arith, ints, told, near_b.0, near_b.1, near_t.0, near_t.1) in
    to_z-of_z w128 r fits_r ∙ told

-- the box of the other paths of a graph of which some walk may be within the limit, and what they add, as code reads it
pub others_box : (spans : List Span) (leasts : List (Option ℤ)) (g : ℕ) (box : Span) → PathsFit spans → g < length spans → all_above (length spans) spans leasts g ≡ false → box ≡ others (span_at spans g) → IsCountBox box
others_box spans leasts g box fits below within is =
    let span : Span = span_at spans g in
    let some : pos 1 ≤ℤ span.high = some_paths (are_possible_but (length spans) spans leasts g) (is_none (least_at leasts g)) span within in
    subst IsCountBox (sym is) (others_fit span (count_box spans g fits below) some)

pub own_read : (leasts : List (Option ℤ)) (g n : ℕ) (box : Span) (own : ℤ) → All IsLeastNear leasts → length leasts ≡ n → g < n → IsCountBox box → own ≡ graph_term (least_at leasts g) box → IsWithin (2 ^ 124) (to_z w128 (of_z w128 own))
own_read leasts g n box own near count below fits is =
    let term = subst (IsWithin (2 ^ 124)) (sym is) (own_near (least_at leasts g) box (near g None (omega (arith, count, below))) fits) in
    let own_fits : FitsSigned w128 own = omega (arith, ints, term.0, term.1) in
    subst (IsWithin (2 ^ 124)) (sym (to_z-of_z w128 own own_fits)) term
