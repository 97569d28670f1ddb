-- The terms of costs over the boxes of counts, as code adds them up.
use Rattle.std.proofs.Common.{◌≡◌, ℕ, zero, suc, ◌+◌, ◌*◌, ◌^◌, ◌<◌, ◌≤◌, ℤ, pos, negsuc, ◌+ℤ◌, ◌*ℤ◌, ◌≤ℤ◌, FitsSigned, to_z, of_z, w64, List, [], ◌∷◌, ◌++◌, All, length, take, get_or, unsigned_abs, mul-add, mul-le-mul_left, refl, ap, subst, sym, ◌∙◌, arith}
use Rattle.std.specs.Int.{w128}
use Rattle.std.proofs.lemmas.Int.{ints, to_z-of_z}
use Rattle.std.proofs.lemmas.List.{length-take, take_all, take_more}
use Rattle.std.proofs.lemmas.List.Sums.{sum_by_more, sum_by_more_le}
use Rattle.path_graph.specs.Within.{IsWithin}
use Rattle.path_graph.proofs.SumLemmas.{product_within}
use Rattle.route_model.specs.declared.places.Span.{Span}
use Rattle.route_model.specs.Terms.{or_zero, sides_of, term}
use Rattle.cert_check.specs.Reads.{IsCountBox}
use Rattle.count_trees.specs.Costs.{cost_terms, tops}

-- the term of a cost over a box
term_below : (cost : ℤ) (box : Span) → ¬ (pos 0 ≤ℤ cost) → or_zero (term cost (sides_of box)) ≡ cost *ℤ box.high
term_below (pos n) box less = absurd (less (omega (arith, ints)))
term_below (negsuc n) box less = refl

end_near : (low high : ℤ) → pos 0 ≤ℤ low → low ≤ℤ high → IsWithin (unsigned_abs high) low × IsWithin (unsigned_abs high) high
end_near low (pos h) some order = ((omega (arith, ints), omega (arith, ints)), (omega (arith, ints), omega (arith, ints)))
end_near low (negsuc h) some order = absurd (omega (arith, ints))

term_near : (cost : ℤ) (box : Span) → IsWithin (2 ^ 88) cost → IsCountBox box → IsWithin (2 ^ 88 * unsigned_abs box.high) (or_zero (term cost (sides_of box)))
term_near (pos zero) box near fits = (omega (arith, ints), omega (arith, ints))
term_near (pos (suc n)) box near fits = product_within (2 ^ 88) (unsigned_abs box.high) (pos (suc n)) box.low near (end_near box.low box.high fits.low fits.order).0
term_near (negsuc n) box near fits = product_within (2 ^ 88) (unsigned_abs box.high) (negsuc n) box.high near (end_near box.low box.high fits.low fits.order).1

-- a product as code makes it
pub high_times : (cost r : ℤ) (box : Span) → IsWithin (2 ^ 88) cost → IsCountBox box → ¬ (pos 0 ≤ℤ cost) → FitsSigned w128 cost → FitsSigned w64 box.high → FitsSigned w128 r
    → r ≡ to_z w128 (of_z w128 cost) *ℤ to_z w64 (of_z w64 box.high) → IsWithin (2 ^ 88 * unsigned_abs box.high) (to_z w128 (of_z w128 r))
high_times cost r box near fits less fits_c fits_h fits_r made =
    let told : r ≡ cost *ℤ box.high = made ∙ (λ i. to_z-of_z w128 cost fits_c i *ℤ to_z-of_z w64 box.high fits_h i) in
    let is = term_below cost box less in
    subst (IsWithin (2 ^ 88 * unsigned_abs box.high)) (is ∙ (sym told ∙ sym (to_z-of_z w128 r fits_r))) (term_near cost box near fits)

-- one walk more
terms_push : (costs : List ℤ) (boxes : List Span) (cost : ℤ) (box : Span) → length boxes ≡ length costs
    → cost_terms (costs ++ cost ∷ []) (boxes ++ box ∷ []) ≡ cost_terms costs boxes +ℤ (or_zero (term cost (sides_of box)) +ℤ pos 0)
terms_push [] [] cost box size = omega (arith, ints)
terms_push [] (b ∷ boxes) cost box size = absurd (omega (arith, size))
terms_push (c ∷ costs) [] cost box size = absurd (omega (arith, size))
terms_push (c ∷ costs) (b ∷ boxes) cost box size = joined _ _ _ _ (terms_push costs boxes cost box (omega (arith, size)))
  where
    joined : (t a b c : ℤ) → a ≡ b +ℤ c → t +ℤ a ≡ (t +ℤ b) +ℤ c
    joined t a b c e = omega (arith, ints)

-- the terms so far stay far within 128 bits
next_most : (boxes : List Span) (k : ℕ) (d : Span) → tops boxes ≤ 2 ^ 37 → k < length boxes
    → 2 ^ 88 * tops (take k boxes) + 2 ^ 88 * unsigned_abs (get_or boxes k d).high ≤ 2 ^ 125
next_most boxes k d few below =
    let most : tops (take k boxes) + unsigned_abs (get_or boxes k d).high ≤ 2 ^ 37 = omega (arith, sum_by_more_le (λ (b : Span). unsigned_abs b.high) boxes k d below, few) in
    let whole : 2 ^ 88 * (tops (take k boxes) + unsigned_abs (get_or boxes k d).high) ≤ 2 ^ 88 * 2 ^ 37 = mul-le-mul_left (2 ^ 88) most in
    subst (λ (n : ℕ). n ≤ 2 ^ 125) (mul-add (2 ^ 88) (tops (take k boxes)) (unsigned_abs (get_or boxes k d).high)) whole

-- the terms of the first walks, within what their boxes allow
pub record AreTerms (costs : List ℤ) (boxes : List Span) (total : ℤ) : Type 0 where
  pub is : total ≡ cost_terms costs boxes
  pub small : IsWithin (2 ^ 88 * tops boxes) total

pub record HasTerm (cost : ℤ) (box : Span) (t : ℤ) : Type 0 where
  pub is : t ≡ or_zero (term cost (sides_of box))
  pub small : IsWithin (2 ^ 88 * unsigned_abs box.high) t

-- the next term, of a cost that code reads off the list
pub has_term : (costs : List ℤ) (boxes : List Span) (k : ℕ) (e : Span) (t : ℤ) → k < length boxes → length boxes ≡ length costs → All (IsWithin (2 ^ 88)) costs
    → t ≡ or_zero (term (to_z w128 (of_z w128 (get_or costs k (pos 0)))) (sides_of (get_or boxes k e))) → IsWithin (2 ^ 88 * unsigned_abs (get_or boxes k e).high) t
    → HasTerm (get_or costs k (pos 0)) (get_or boxes k e) t
has_term costs boxes k e t below size near is small =
    let here = near k (pos 0) (omega (arith, below, size)) in
    let fits : FitsSigned w128 (get_or costs k (pos 0)) = omega (arith, ints, here.0, here.1) in
    record { is = is ∙ ap (λ (cost : ℤ). or_zero (term cost (sides_of (get_or boxes k e)))) (to_z-of_z w128 (get_or costs k (pos 0)) fits); small = small }

module _ (costs : List ℤ) (boxes : List Span) (k : ℕ) (d : ℤ) (e : Span) (below : k < length boxes) (size : length boxes ≡ length costs) (few : tops boxes ≤ 2 ^ 37) where
  -- the next term fits
  pub terms_fit : (total r : ℤ) → AreTerms (take k costs) (take k boxes) total → HasTerm (get_or costs k d) (get_or boxes k e) r → FitsSigned w128 (total +ℤ to_z w128 (of_z w128 r))
  terms_fit total r before has =
      let most = next_most boxes k e few below in
      let fits_r : FitsSigned w128 r = omega (arith, ints, has.small.0, has.small.1, most) in
      let told : to_z w128 (of_z w128 r) ≡ r = to_z-of_z w128 r fits_r in
      omega (arith, ints, told, has.small.0, has.small.1, most, before.small.0, before.small.1)

  pub terms_step : (total r next : ℤ) → AreTerms (take k costs) (take k boxes) total → HasTerm (get_or costs k d) (get_or boxes k e) r → next ≡ total +ℤ to_z w128 (of_z w128 r)
      → AreTerms (take (k + 1) costs) (take (k + 1) boxes) (to_z w128 (of_z w128 next))
  terms_step total r next before has made =
      let inside : k < length costs = omega (arith, below, size) in
      let most = next_most boxes k e few below in
      let fits_r : FitsSigned w128 r = omega (arith, ints, has.small.0, has.small.1, most) in
      let told : next ≡ total +ℤ r = made ∙ ap (λ (z : ℤ). total +ℤ z) (to_z-of_z w128 r fits_r) in
      let fits_next : FitsSigned w128 next = omega (arith, ints, told, has.small.0, has.small.1, most, before.small.0, before.small.1) in
      let read : to_z w128 (of_z w128 next) ≡ total +ℤ r = to_z-of_z w128 next fits_next ∙ told in
      let highs = ap (λ (n : ℕ). 2 ^ 88 * n) (sum_by_more (λ (b : Span). unsigned_abs b.high) boxes k e below) ∙ mul-add (2 ^ 88) (tops (take k boxes)) (unsigned_abs (get_or boxes k e).high) in
      let cs = take_more costs k d inside in
      let bs = take_more boxes k e below in
      let sizes : length (take k boxes) ≡ length (take k costs) = omega (arith, length-take k boxes, length-take k costs, size) in
      let pushed = (λ i. cost_terms (cs i) (bs i)) ∙ terms_push (take k costs) (take k boxes) (get_or costs k d) (get_or boxes k e) sizes in
      record {
        is = joined (to_z w128 (of_z w128 next)) total r _ _ _ read before.is has.is pushed;
        small = (omega (arith, ints, read, before.small.0, has.small.0, highs), omega (arith, ints, read, before.small.1, has.small.1, highs));
      }
    where
      joined : (y t r s f next : ℤ) → y ≡ t +ℤ r → t ≡ s → r ≡ f → next ≡ s +ℤ (f +ℤ pos 0) → y ≡ next
      joined y t r s f next e g h l = omega (arith, ints)

-- all terms together
pub terms_all : (costs : List ℤ) (boxes : List Span) (k : ℕ) (total : ℤ) → length boxes ≤ k → length boxes ≡ length costs → AreTerms (take k costs) (take k boxes) total → total ≡ cost_terms costs boxes
terms_all costs boxes k total whole size are = are.is ∙ (λ i. cost_terms (take_all k costs (omega (arith, whole, size)) i) (take_all k boxes whole i))

pub terms_within : (costs : List ℤ) (boxes : List Span) (k : ℕ) (total : ℤ) → length boxes ≤ k → tops boxes ≤ 2 ^ 37 → AreTerms (take k costs) (take k boxes) total → IsWithin (2 ^ 125) total
terms_within costs boxes k total whole few are =
    let all : tops (take k boxes) ≤ 2 ^ 37 = omega (arith, ap tops (take_all k boxes whole), few) in
    let most : 2 ^ 88 * tops (take k boxes) ≤ 2 ^ 88 * 2 ^ 37 = mul-le-mul_left (2 ^ 88) all in
    (omega (arith, ints, are.small.0, most), omega (arith, ints, are.small.1, most))
