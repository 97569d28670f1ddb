-- Nodes at counts over a list of walks: a split, a close, and a point.
use Rattle.std.proofs.Common.{◌≡◌, ℕ, suc, ◌<◌, ℤ, pos, ◌+ℤ◌, ◌*ℤ◌, ◌≤ℤ◌, List, [], ◌∷◌, length, get_or, inl, inr, refl, sym, ◌∙◌, subst, arith}
use Rattle.std.specs.Prelude.{slice_set, ◌⊎◌, unsigned_abs}
use Rattle.std.proofs.lemmas.Int.{ints}
use lib.IntN.{*ℤ_comm}
use Rattle.std.proofs.lemmas.List.{length-set}
use Rattle.std.proofs.lemmas.List.Elements.{All-head, All-nil, All-tail}
use Rattle.rank1_cuts.specs.Fit.{CutFits}
use Rattle.route_model.specs.declared.multipliers.Mult.{Mult}
use Rattle.route_model.specs.declared.places.Span.{Span}
use Rattle.route_model.specs.declared.places.Spot.{Spot}
use Rattle.route_model.specs.Fit.{ModelFits}
use Rattle.route_model.specs.Parts.{ModelParts}
use Rattle.route_model.specs.PlaceParts.{high_part, low_part}
use Rattle.route_model.specs.Places.{IsInSpan, SolvesAt, span_at}
use Rattle.route_model.specs.Quantities.{cost_of}
use Rattle.route_model.proofs.PlaceLemmas.{in_part, span_set}
use Rattle.multipliers.specs.Quantities.{base, plan_sum, reduced_cost, scaled}
use Rattle.multipliers.proofs.DualityLemmas.{term_in, weak_duality}
use Rattle.safe_bound.proofs.BoundLemmas.{scaled_apart}
use Rattle.proof_rules.specs.Counts.{Walk, plan_of, with_counts}
use Rattle.proof_rules.specs.Nodes.{ArePoints, IsCountClose, IsPoint, count_terms, lows}
use Rattle.proof_rules.specs.ValidLaws.{AreInBoxes, HasAtCounts}
use Rattle.proof_rules.proofs.CountLemmas.{paths_sum, plan_of_law}

-- a split
in_boxes-with : (boxes : List Span) (i : ℕ) (span : Span) (counts : List ℕ) → AreInBoxes boxes counts → IsInSpan span (pos (get_or counts i 0)) → AreInBoxes (slice_set boxes i span) counts
in_boxes-with boxes i span counts are inside = record {
  size = are.size ∙ sym (length-set boxes i span);
  each = λ k l.
      let there : k < length boxes = omega (arith, l, length-set boxes i span) in
      span_set (λ (box : Span). IsInSpan box (pos (get_or counts k 0))) boxes i span k (are.each k there) (λ e. subst (λ (j : ℕ). IsInSpan span (pos (get_or counts j 0))) (sym e) inside);
}

narrowed : (m : ModelParts) (spot : Spot) (walks : List Walk) (boxes : List Span) (i : ℕ) (span : Span) (cost : ℤ) (has : HasAtCounts m spot walks boxes cost) → IsInSpan span (pos (get_or has.counts i 0))
    → HasAtCounts m spot walks (slice_set boxes i span) cost
narrowed m spot walks boxes i span cost has inside = record {
  counts = has.counts;
  size = has.size;
  inside = in_boxes-with boxes i span has.counts has.inside inside;
  solves = has.solves;
  is = has.is;
}

pub count_parts : (m : ModelParts) (spot : Spot) (walks : List Walk) (boxes : List Span) (i : ℕ) (d cost : ℤ) → i < length boxes → HasAtCounts m spot walks boxes cost
    → HasAtCounts m spot walks (slice_set boxes i (low_part (span_at boxes i) d)) cost ⊎ HasAtCounts m spot walks (slice_set boxes i (high_part (span_at boxes i) d)) cost
count_parts m spot walks boxes i d cost below has =
    elim (in_part (span_at boxes i) d (pos (get_or has.counts i 0)) (has.inside.each i below)) [
      | inl low ↦ inl (narrowed m spot walks boxes i (low_part (span_at boxes i) d) cost has low)
      | inr high ↦ inr (narrowed m spot walks boxes i (high_part (span_at boxes i) d) cost has high)
    ]

-- quantities of the plan of counts
pub plan_sums : (f : ℕ → List ℕ → ℤ) (walks : List Walk) (counts : List ℕ) → plan_sum f (plan_of walks counts) ≡ paths_sum f (with_counts walks counts)
plan_sums f walks counts = (plan_of_law walks counts).same f

-- a close: each walk costs at least its term
rest_inside : (box : Span) (boxes : List Span) (c : ℕ) (counts : List ℕ) → AreInBoxes (box ∷ boxes) (c ∷ counts) → AreInBoxes boxes counts
rest_inside box boxes c counts are = record { size = omega (arith, are.size); each = λ i l. are.each (suc i) (omega (arith, l)) }

first_inside : (box : Span) (boxes : List Span) (c : ℕ) (counts : List ℕ) → AreInBoxes (box ∷ boxes) (c ∷ counts) → IsInSpan box (pos c)
first_inside box boxes c counts are = are.each 0 (omega arith)

terms_under : (m : ModelParts) (mult : Mult) (walks : List Walk) (boxes : List Span) (counts : List ℕ) → length counts ≡ length walks → AreInBoxes boxes counts
    → count_terms m mult walks boxes ≤ℤ paths_sum (reduced_cost m [] mult) (with_counts walks counts)
terms_under m mult [] boxes counts size are = omega (arith, ints)
terms_under m mult (w ∷ walks) boxes [] size are = absurd (omega (arith, size))
terms_under m mult (w ∷ walks) [] (c ∷ counts) size are = absurd (omega (arith, are.size))
terms_under m mult (w ∷ walks) (box ∷ boxes) (c ∷ counts) size are =
    joined _ (pos c *ℤ reduced_cost m [] mult w.graph w.arcs) (reduced_cost m [] mult w.graph w.arcs *ℤ pos c) _ _
    (term_in (reduced_cost m [] mult w.graph w.arcs) (pos c) box (first_inside box boxes c counts are)) (times_comm (reduced_cost m [] mult w.graph w.arcs) (pos c))
    (terms_under m mult walks boxes counts (omega (arith, size)) (rest_inside box boxes c counts are))
  where
    times_comm : (a b : ℤ) → a *ℤ b ≡ b *ℤ a
    times_comm a b = *ℤ_comm a b

    joined : (t x y r spot : ℤ) → t ≤ℤ y → y ≡ x → r ≤ℤ spot → (t +ℤ r) ≤ℤ (x +ℤ spot)
    joined t x y r spot h e k = omega (arith, ints)

pub count_close_none : (m : ModelParts) (z : ℤ) (spot : Spot) (walks : List Walk) (boxes : List Span) (mult : Mult) (cost : ℤ) → ModelFits m → IsCountClose m z spot walks boxes mult → HasAtCounts m spot walks boxes cost → z ≤ℤ cost
count_close_none m z spot walks boxes mult cost fits close has =
    let dual = weak_duality m [] spot.boxes mult (plan_of walks has.counts) fits (All-nil CutFits) has.solves.within close.defined in
    let terms = terms_under m mult walks boxes has.counts has.size has.inside in
    let same = plan_sums (reduced_cost m [] mult) walks has.counts in
    scaled_apart z cost _ close.above
    (subst (λ (c : ℤ). (base m [] spot.boxes mult +ℤ count_terms m mult walks boxes) ≤ℤ scaled c) has.is
    (joined (base m [] spot.boxes mult) _ _ _ (scaled (cost_of m (plan_of walks has.counts))) terms same dual))
  where
    joined : (b t a r c : ℤ) → t ≤ℤ a → r ≡ a → (b +ℤ r) ≤ℤ c → (b +ℤ t) ≤ℤ c
    joined b t a r c h e k = omega (arith, ints)

-- a point: the counts are those of the boxes
abs_point : (box : Span) (c : ℕ) → box.low ≡ box.high → IsInSpan box (pos c) → unsigned_abs box.low ≡ c
abs_point box c point inside = omega (arith, ints, point, inside.0, inside.1)

points_are : (boxes : List Span) (counts : List ℕ) → ArePoints boxes → AreInBoxes boxes counts → lows boxes ≡ counts
points_are [] [] points are = refl
points_are [] (c ∷ counts) points are = absurd (omega (arith, are.size))
points_are (box ∷ boxes) [] points are = absurd (omega (arith, are.size))
points_are (box ∷ boxes) (c ∷ counts) points are =
    let here = abs_point box c (All-head (λ (b : Span). b.low ≡ b.high) box boxes points) (first_inside box boxes c counts are) in
    let more = points_are boxes counts (All-tail (λ (b : Span). b.low ≡ b.high) box boxes points) (rest_inside box boxes c counts are) in
    λ i. here i ∷ more i

pub point_none : (m : ModelParts) (z : ℤ) (spot : Spot) (walks : List Walk) (boxes : List Span) (cost : ℤ) → IsPoint m z spot walks boxes → HasAtCounts m spot walks boxes cost → z ≤ℤ cost
point_none m z spot walks boxes cost point has =
    let same = points_are boxes has.counts point.points has.inside in
    let least : z ≤ℤ cost_of m (plan_of walks has.counts) =
    subst (λ (counts : List ℕ). SolvesAt m spot (plan_of walks counts) → z ≤ℤ cost_of m (plan_of walks counts)) same point.not_below has.solves in
    subst (λ (c : ℤ). z ≤ℤ c) has.is least
