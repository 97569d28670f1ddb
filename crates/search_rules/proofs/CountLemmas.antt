-- Below counts in boxes there are few nodes: each split shares the points of its boxes out.
use Rattle.std.proofs.Common.{◌≡◌, ℕ, suc, ◌+◌, ◌-◌, ◌*◌, ◌≤◌, ℤ, pos, ◌≤ℤ◌, List, [], ◌∷◌, length, get_or, sum_by, All, ap, arith}
use lib.Signed.{◌<ℤ◌}
use Rattle.std.specs.Prelude.{slice_set}
use Rattle.std.proofs.lemmas.Int.{ints, clamps}
use Rattle.std.proofs.lemmas.List.Elements.{All-set}
use Rattle.std.proofs.lemmas.List.Sums.{sum_by-cons}
use Rattle.route_model.specs.declared.places.Span.{Span}
use Rattle.route_model.specs.Parts.{ModelParts}
use Rattle.route_model.specs.PlaceParts.{high_part, low_part}
use Rattle.route_model.specs.Places.{span_at}
use Rattle.proof_rules.specs.Grows.{HoldsForEach}
use Rattle.proof_rules.specs.Nodes.{AtCounts, AtPlace, CountSplit, IsCountSplit, IsNode, Item, Node, children_of, node_rules}
use Rattle.search_rules.specs.Completeness.{HasPoints, points_in, product_by}
use Rattle.search_rules.specs.Laws.{FewCountNodesLaw}
use Rattle.search_rules.proofs.ProductLemmas.{product_positive, product_set, product_without, without}
use Rattle.search_rules.proofs.WeightLemmas.{Weighs, nodes_weigh}

-- the points of a box that is not empty, and of its parts
pub some_points : (span : Span) → HasPoints span → 1 ≤ points_in span
some_points span has = omega (arith, ints, clamps, has)

pub points_from_zero : (n : ℕ) → points_in (record { low = pos 0; high = pos n }) ≡ suc n
points_from_zero n = omega (arith, ints, clamps)

part_points : (span : Span) (d : ℤ) → span.low ≤ℤ d → d <ℤ span.high → points_in (low_part span d) + points_in (high_part span d) ≡ points_in span
part_points span d low high = omega (arith, ints, clamps, low, high)

pub some_ways : (boxes : List Span) → All HasPoints boxes → 1 ≤ product_by points_in boxes
some_ways boxes each = product_positive points_in boxes (λ i d l. some_points (get_or boxes i d) (each i d l))

-- a split
abbrev low_boxes : List Span → ℕ → ℤ → List Span
low_boxes boxes i d = slice_set boxes i (low_part (span_at boxes i) d)

abbrev high_boxes : List Span → ℕ → ℤ → List Span
high_boxes boxes i d = slice_set boxes i (high_part (span_at boxes i) d)

low_has : (boxes : List Span) (i : ℕ) (d : ℤ) → IsCountSplit boxes i d → All HasPoints boxes → All HasPoints (low_boxes boxes i d)
low_has boxes i d split each = All-set HasPoints boxes i (low_part (span_at boxes i) d) split.low each

high_has : (boxes : List Span) (i : ℕ) (d : ℤ) → IsCountSplit boxes i d → All HasPoints boxes → All HasPoints (high_boxes boxes i d)
high_has boxes i d split each = All-set HasPoints boxes i (high_part (span_at boxes i) d) (above (span_at boxes i) d split.high) each
  where
    above : (span : Span) (e : ℤ) → e <ℤ span.high → HasPoints (high_part span e)
    above span e high = omega (arith, ints, high)

shared : (a b c r x y w : ℕ) → a + b ≡ c → x ≡ a * r → y ≡ b * r → w ≡ c * r → x + y ≡ w
shared a b c r x y w parts p q s = let scaled = ap (λ (n : ℕ). n * r) parts in omega (arith, scaled, p, q, s)

ways_shared : (boxes : List Span) (i : ℕ) (d : ℤ) → IsCountSplit boxes i d → product_by points_in (low_boxes boxes i d) + product_by points_in (high_boxes boxes i d) ≡ product_by points_in boxes
ways_shared boxes i d split =
    shared (points_in (low_part (span_at boxes i) d)) (points_in (high_part (span_at boxes i) d)) (points_in (span_at boxes i)) (product_by points_in (without boxes i)) _ _ _
    (part_points (span_at boxes i) d split.low split.high)
    (product_set points_in boxes i (low_part (span_at boxes i) d) split.walk)
    (product_set points_in boxes i (high_part (span_at boxes i) d) split.walk)
    (product_without points_in boxes i (record { low = pos 0; high = pos 0 }) split.walk)

-- counts whose boxes are not empty weigh twice their points, but one
abbrev AreCountsInBoxes : Item → Type 0
AreCountsInBoxes (AtPlace spot) = ⊥
AreCountsInBoxes (AtCounts spot walks boxes) = All HasPoints boxes

abbrev weight : Item → ℕ
weight (AtPlace spot) = 0
weight (AtCounts spot walks boxes) = 2 * product_by points_in boxes - 1

below : (m : ModelParts) (z : ℤ) (i : Item) (n : Node) → AreCountsInBoxes i → IsNode m z i n → HoldsForEach AreCountsInBoxes (children_of m i n)
below m z (AtPlace spot) n is fits = absurd is
below m z (AtCounts spot walks boxes) (CountSplit i d) is fits = (low_has boxes i d fits is, (high_has boxes i d fits is, tt))
below m z (AtCounts spot walks boxes) n is fits = tt

most : (m : ModelParts) (z : ℤ) (i : Item) (n : Node) → AreCountsInBoxes i → IsNode m z i n → suc (sum_by weight (children_of m i n)) ≤ weight i
most m z (AtPlace spot) n is fits = absurd is
most m z (AtCounts spot walks boxes) (CountSplit i d) is fits =
    let low : Item = AtCounts spot walks (low_boxes boxes i d) in
    let high : Item = AtCounts spot walks (high_boxes boxes i d) in
    let two = sum_by-cons weight low (high ∷ []) in
    let one = sum_by-cons weight high [] in
    let first = some_ways (low_boxes boxes i d) (low_has boxes i d fits is) in
    let second = some_ways (high_boxes boxes i d) (high_has boxes i d fits is) in
    let all = ways_shared boxes i d fits in
    omega (arith, two, one, first, second, all)
most m z (AtCounts spot walks boxes) n is fits = let some = some_ways boxes is in omega (arith, some)

weighs : (m : ModelParts) (z : ℤ) → Weighs (node_rules m z) AreCountsInBoxes weight
weighs m z = record { below = below m z; most = most m z }

-- each item that stays open weighs at least one
each_weighs : (is : List Item) → HoldsForEach AreCountsInBoxes is → length is ≤ sum_by weight is
each_weighs [] each = omega arith
each_weighs (AtPlace spot ∷ is) each = absurd each.0
each_weighs (AtCounts spot walks boxes ∷ is) each =
    let some = some_ways boxes each.0 in
    let sums = sum_by-cons weight (AtCounts spot walks boxes) is in
    let more = each_weighs is each.1 in
    omega (arith, some, sums, more)

pub few_count_nodes : FewCountNodesLaw
few_count_nodes m z spot walks boxes nodes open_items each grows =
    let start : Item = AtCounts spot walks boxes in
    let left = nodes_weigh (node_rules m z) AreCountsInBoxes weight (weighs m z) (start ∷ []) open_items nodes (each, tt) grows in
    let all = sum_by-cons weight start [] in
    let some = some_ways boxes each in
    let open_most = each_weighs open_items left.each in
    omega (arith, left.most, all, some, open_most)
