-- Reduced costs of listed walks, and their terms over the boxes of counts, as code adds them up.
use Rattle.std.proofs.Common.{◌≡◌, ℕ, zero, suc, ◌+◌, ◌*◌, ◌^◌, ◌<◌, ◌≤◌, ℤ, pos, negsuc, ◌+ℤ◌, ◌-ℤ◌, ◌*ℤ◌, ◌≤ℤ◌, FitsSigned, to_z, of_z, w64, Option, None, Some, List, [], ◌∷◌, ◌++◌, All, length, take, get_or, unsigned_abs, mul-add, mul-le-mul_left, inl, inr, refl, ap, subst, sym, ◌∙◌, arith}
use lib.Signed.{◌<ℤ◌}
use Rattle.std.specs.Prelude.{IfSome, IsSomeAnd}
use Rattle.std.specs.Int.{w128}
use Rattle.std.proofs.lemmas.Bool.{cases_lt}
use Rattle.std.proofs.lemmas.Int.{ints, to_z-of_z}
use Rattle.std.proofs.lemmas.List.{get_or_past, length-map, length-take, map-append, take_more}
use Rattle.std.proofs.lemmas.List.Elements.{All-head, All-push, All-tail}
use Rattle.std.proofs.lemmas.List.Sums.{sum_by_more, sum_by_more_le}
use Rattle.path_graph.specs.Fit.{int_at}
use Rattle.path_graph.specs.Sums.{sum_over}
use Rattle.path_graph.specs.Within.{IsWithin}
use Rattle.path_graph.proofs.SumLemmas.{product_within, sum_over-append}
use Rattle.route_model.specs.declared.multipliers.Mult.{Mult}
use Rattle.route_model.specs.declared.multipliers.Priced.{Priced}
use Rattle.route_model.specs.declared.places.Boxes.{Boxes}
use Rattle.route_model.specs.declared.places.Span.{Span}
use Rattle.route_model.specs.declared.places.Spot.{Spot}
use Rattle.route_model.specs.Parts.{ModelParts, graph_in}
use Rattle.route_model.specs.Terms.{or_zero, sides_of, term}
use Rattle.multipliers.specs.Priced.{visit_cost}
use Rattle.path_graph.specs.Walk.{GraphParts}
use Rattle.std.specs.Prelude.{slice_index_or}
use Rattle.multipliers.specs.Quantities.{base, reduced_cost, scaled}
use Rattle.proof_rules.specs.Counts.{Walk}
use Rattle.proof_rules.specs.Nodes.{IsCountClose, count_terms}
use Rattle.cert_check.specs.declared.stack.Listed.{Listed}
use Rattle.cert_check.specs.Costs.{AreNear, AreTerms, HasTerm, IsCountPriced, IsTermSum, priced_cost, priced_terms, step_cost, tops}
use Rattle.cert_check.specs.Faults.{CountsClose}
use Rattle.cert_check.specs.Frames.{walk_said, walks_said}
use Rattle.cert_check.specs.Reads.{IsCountBox, WalkFits}

-- a number by its place is as near to 0 as all are
pub within_at : (n : ℕ) (xs : List ℤ) (k : ℕ) → All (IsWithin n) xs → IsWithin n (int_at xs k)
within_at n xs k all = elim (cases_lt k (length xs)) [
  | inl inside ↦ all k (pos 0) inside
  | inr past ↦ subst (IsWithin n) (sym (get_or_past xs k (pos 0) past)) (omega (arith, ints), omega (arith, ints))
]

pub within_visit : (n : ℕ) (xs : List ℤ) (v : Option ℕ) → All (IsWithin n) xs → IsWithin n (visit_cost xs v)
within_visit n xs None all = (omega (arith, ints), omega (arith, ints))
within_visit n xs (Some s) all = within_at n xs s all

pub sum_small : (x y r : ℤ) → IsWithin (2 ^ 72 + 2 ^ 53) x → IsWithin (2 ^ 48) y → r ≡ x +ℤ y → IsWithin (2 ^ 73) r
sum_small x y r p q is = (omega (arith, ints, p.0, q.0, is), omega (arith, ints, p.1, q.1, is))

-- one arc more
pub along_more : (f : ℕ → ℤ) (walk : List ℕ) (k d : ℕ) (start total r next : ℤ) → k < length walk → length walk ≤ 2 ^ 25 → total ≡ start +ℤ sum_over f (take k walk)
    → IsWithin (2 ^ 48 + k * 2 ^ 73) total → r ≡ f (get_or walk k d) → IsWithin (2 ^ 73) r → next ≡ total +ℤ to_z w128 (of_z w128 r)
    → (to_z w128 (of_z w128 next) ≡ start +ℤ sum_over f (take (k + 1) walk)) × IsWithin (2 ^ 48 + (k + 1) * 2 ^ 73) (to_z w128 (of_z w128 next))
along_more f walk k d start total r next below few sum near is small made =
    let fits_r : FitsSigned w128 r = omega (arith, ints, small.0, small.1) in
    let told : next ≡ total +ℤ r = made ∙ ap (λ (z : ℤ). total +ℤ z) (to_z-of_z w128 r fits_r) in
    let fits_next : FitsSigned w128 next = omega (arith, ints, told, small.0, small.1, near.0, near.1, few) in
    let read : to_z w128 (of_z w128 next) ≡ total +ℤ r = to_z-of_z w128 next fits_next ∙ told in
    let more : sum_over f (take (k + 1) walk) ≡ sum_over f (take k walk) +ℤ (f (get_or walk k d) +ℤ pos 0) =
    ap (sum_over f) (take_more walk k d below) ∙ sum_over-append f (take k walk) (get_or walk k d ∷ []) in (
      joined (to_z w128 (of_z w128 next)) total r start _ _ _ read sum is more,
      (omega (arith, ints, read, near.0, small.0), omega (arith, ints, read, near.1, small.1)),
    )
  where
    joined : (y t r s a g next : ℤ) → y ≡ t +ℤ r → t ≡ s +ℤ a → r ≡ g → next ≡ a +ℤ (g +ℤ pos 0) → y ≡ s +ℤ next
    joined y t r s a g next e h k l = omega (arith, ints)

-- the term of a cost over a box
pub term_is : (cost : ℤ) (box : Span) → pos 0 ≤ℤ cost → or_zero (term cost (sides_of box)) ≡ cost *ℤ box.low
term_is (pos zero) box some = omega (arith, ints, zero_times box.low)
  where
    zero_times : (x : ℤ) → pos 0 *ℤ x ≡ pos 0
    zero_times x = omega (arith, ints)
term_is (pos (suc n)) box some = refl
term_is (negsuc n) box some = absurd (omega (arith, ints))

pub term_below : (cost : ℤ) (box : Span) → ¬ (pos 0 ≤ℤ cost) → or_zero (term cost (sides_of box)) ≡ cost *ℤ box.high
term_below (pos n) box less = absurd (less (omega (arith, ints)))
term_below (negsuc n) box less = refl

end_near : (low high : ℤ) → pos 0 ≤ℤ low → low ≤ℤ high → IsWithin (unsigned_abs high) low × IsWithin (unsigned_abs high) high
end_near low (pos h) some order = ((omega (arith, ints), omega (arith, ints)), (omega (arith, ints), omega (arith, ints)))
end_near low (negsuc h) some order = absurd (omega (arith, ints))

pub term_near : (cost : ℤ) (box : Span) → IsWithin (2 ^ 88) cost → IsCountBox box → IsWithin (2 ^ 88 * unsigned_abs box.high) (or_zero (term cost (sides_of box)))
term_near (pos zero) box near fits = (omega (arith, ints), omega (arith, ints))
term_near (pos (suc n)) box near fits = product_within (2 ^ 88) (unsigned_abs box.high) (pos (suc n)) box.low near (end_near box.low box.high fits.low fits.order).0
term_near (negsuc n) box near fits = product_within (2 ^ 88) (unsigned_abs box.high) (negsuc n) box.high near (end_near box.low box.high fits.low fits.order).1

-- one walk more
terms_push : (m : ModelParts) (p : Priced) (walks : List Walk) (boxes : List Span) (w : Walk) (box : Span) → length boxes ≡ length walks
    → priced_terms m p (walks ++ w ∷ []) (boxes ++ box ∷ []) ≡ priced_terms m p walks boxes +ℤ (or_zero (term (priced_cost m p w) (sides_of box)) +ℤ pos 0)
terms_push m p [] [] w box size = omega (arith, ints)
terms_push m p [] (b ∷ boxes) w box size = absurd (omega (arith, size))
terms_push m p (v ∷ walks) [] w box size = absurd (omega (arith, size))
terms_push m p (v ∷ walks) (b ∷ boxes) w box size =
    joined _ _ _ _ (terms_push m p walks boxes w box (omega (arith, size)))
  where
    joined : (t a b c : ℤ) → a ≡ b +ℤ c → t +ℤ a ≡ (t +ℤ b) +ℤ c
    joined t a b c e = omega (arith, ints)

-- the terms so far stay far within 128 bits
next_most : (boxes : List Span) (k : ℕ) (d : Span) → tops boxes ≤ 2 ^ 37 → k < length boxes
    → 2 ^ 88 * tops (take k boxes) + 2 ^ 88 * unsigned_abs (get_or boxes k d).high ≤ 2 ^ 125
next_most boxes k d few below =
    let most : tops (take k boxes) + unsigned_abs (get_or boxes k d).high ≤ 2 ^ 37 = omega (arith, sum_by_more_le (λ (b : Span). unsigned_abs b.high) boxes k d below, few) in
    let whole : 2 ^ 88 * (tops (take k boxes) + unsigned_abs (get_or boxes k d).high) ≤ 2 ^ 88 * 2 ^ 37 = mul-le-mul_left (2 ^ 88) most in
    subst (λ (n : ℕ). n ≤ 2 ^ 125) (mul-add (2 ^ 88) (tops (take k boxes)) (unsigned_abs (get_or boxes k d).high)) whole

pub walks_more : (walks : List Listed) (k : ℕ) (d : Listed) → k < length walks → walks_said (take (k + 1) walks) ≡ walks_said (take k walks) ++ walk_said (get_or walks k d) ∷ []
walks_more walks k d below = ap walks_said (take_more walks k d below) ∙ map-append walk_said (take k walks) (get_or walks k d ∷ [])

pub taken_size : {X Y : Type 0} (xs : List X) (ys : List Y) (k : ℕ) → length ys ≡ length xs → length (take k ys) ≡ length (take k xs)
taken_size xs ys k size = omega (arith, length-take k xs, length-take k ys, size)

module _ (m : ModelParts) (p : Priced) (walks : List Listed) (boxes : List Span) (k : ℕ) (d : Listed) (e : Span) (below : k < length walks) (size : length boxes ≡ length walks) (few : tops boxes ≤ 2 ^ 37) where
  -- the next term fits
  pub terms_fit : (total r : ℤ) → AreTerms m p (walks_said (take k walks)) (take k boxes) total → HasTerm m p (walk_said (get_or walks k d)) (get_or boxes k e) r
      → FitsSigned w128 (total +ℤ to_z w128 (of_z w128 r))
  terms_fit total r before has =
      let most = next_most boxes k e few (omega (arith, below, size)) in
      let fits_r : FitsSigned w128 r = omega (arith, ints, has.small.0, has.small.1, most) in
      let told : to_z w128 (of_z w128 r) ≡ r = to_z-of_z w128 r fits_r in
      omega (arith, ints, told, has.small.0, has.small.1, most, before.small.0, before.small.1)

  pub terms_step : (total r next : ℤ) → AreTerms m p (walks_said (take k walks)) (take k boxes) total → HasTerm m p (walk_said (get_or walks k d)) (get_or boxes k e) r
      → next ≡ total +ℤ to_z w128 (of_z w128 r) → AreTerms m p (walks_said (take (k + 1) walks)) (take (k + 1) boxes) (to_z w128 (of_z w128 next))
  terms_step total r next before has made =
      let inside : k < length boxes = omega (arith, below, size) in
      let most = next_most boxes k e few inside in
      let fits_r : FitsSigned w128 r = omega (arith, ints, has.small.0, has.small.1, most) in
      let told : next ≡ total +ℤ r = made ∙ ap (λ (z : ℤ). total +ℤ z) (to_z-of_z w128 r fits_r) in
      let fits_next : FitsSigned w128 next = omega (arith, ints, told, has.small.0, has.small.1, most, before.small.0, before.small.1) in
      let read : to_z w128 (of_z w128 next) ≡ total +ℤ r = to_z-of_z w128 next fits_next ∙ told in
      let highs = ap (λ (n : ℕ). 2 ^ 88 * n) (sum_by_more (λ (b : Span). unsigned_abs b.high) boxes k e inside) ∙ mul-add (2 ^ 88) (tops (take k boxes)) (unsigned_abs (get_or boxes k e).high) in
      let ws = walks_more walks k d below in
      let bs = take_more boxes k e inside in
      let sizes : length (take k boxes) ≡ length (walks_said (take k walks)) = taken_size walks boxes k size ∙ sym (length-map (take k walks) walk_said) in
      let pushed = (λ i. priced_terms m p (ws i) (bs i)) ∙ terms_push m p (walks_said (take k walks)) (take k boxes) (walk_said (get_or walks k d)) (get_or boxes k e) sizes in
      record {
        near = subst (AreNear m p) (sym ws) (All-push (λ (w : Walk). IsWithin (2 ^ 88) (priced_cost m p w)) (walks_said (take k walks)) (walk_said (get_or walks k d)) before.near has.near);
        is = joined (to_z w128 (of_z w128 next)) total r _ _ _ read before.is has.is pushed;
        small = (omega (arith, ints, read, before.small.0, has.small.0, highs), omega (arith, ints, read, before.small.1, has.small.1, highs));
      }
    where
      joined : (y t r s f next : ℤ) → y ≡ t +ℤ r → t ≡ s → r ≡ f → next ≡ s +ℤ (f +ℤ pos 0) → y ≡ next
      joined y t r s f next e g h l = omega (arith, ints)

-- the cost of a walk is that for which it was priced
pub cost_is : (m : ModelParts) (boxes : Boxes) (mult : Mult) (p : Priced) (w : Walk) → IsCountPriced m boxes mult p → WalkFits m w → reduced_cost m [] mult w.graph w.arcs ≡ priced_cost m p w
cost_is m boxes mult p w priced fits = joined _ _ (priced.along w.graph _ _ w.arcs fits.graph fits.there)
  where
    joined : (x y : ℤ) → x ≡ y +ℤ pos 0 → x ≡ y
    joined x y e = omega (arith, ints)

-- so the terms are those of the reduced costs
pub terms_are : (m : ModelParts) (at : Boxes) (mult : Mult) (p : Priced) (walks : List Walk) (boxes : List Span) → IsCountPriced m at mult p → All (WalkFits m) walks
    → count_terms m mult walks boxes ≡ priced_terms m p walks boxes
terms_are m at mult p [] boxes priced fit = refl
terms_are m at mult p (w ∷ walks) [] priced fit = refl
terms_are m at mult p (w ∷ walks) (box ∷ boxes) priced fit =
    let one = cost_is m at mult p w priced (All-head (WalkFits m) w walks fit) in
    let more = terms_are m at mult p walks boxes priced (All-tail (WalkFits m) w walks fit) in
    λ i. or_zero (term (one i) (sides_of box)) +ℤ more i

-- all terms together, and whether they close the counts
pub sum_within : (m : ModelParts) (p : Priced) (walks : List Walk) (boxes : List Span) (terms : Option ℤ) → tops boxes ≤ 2 ^ 37 → IsTermSum m p walks boxes terms → IfSome terms (IsWithin (2 ^ 125))
sum_within m p walks boxes None few sum = tt
sum_within m p walks boxes (Some total) few sum =
    let most : 2 ^ 88 * tops boxes ≤ 2 ^ 88 * 2 ^ 37 = mul-le-mul_left (2 ^ 88) few in
    (omega (arith, ints, sum.small.0, most), omega (arith, ints, sum.small.1, most))

module _ (m : ModelParts) (z : ℤ) (spot : Spot) (walks : List Walk) (boxes : List Span) (mult : Mult) (p : Priced) (priced : IsCountPriced m spot.boxes mult p) (fit : All (WalkFits m) walks) where
  near_from : AreNear m p walks → All (λ (w : Walk). IsWithin (2 ^ 88) (reduced_cost m [] mult w.graph w.arcs)) walks
  near_from near i d l = subst (IsWithin (2 ^ 88)) (sym (cost_is m spot.boxes mult p (get_or walks i d) priced (fit i d l))) (near i d l)

  near_to : All (λ (w : Walk). IsWithin (2 ^ 88) (reduced_cost m [] mult w.graph w.arcs)) walks → AreNear m p walks
  near_to near i d l = subst (IsWithin (2 ^ 88)) (cost_is m spot.boxes mult p (get_or walks i d) priced (fit i d l)) (near i d l)

  whole : (total : ℤ) → total ≡ priced_terms m p walks boxes → p.base +ℤ total ≡ base m [] spot.boxes mult +ℤ count_terms m mult walks boxes
  whole total is = let terms = is ∙ sym (terms_are m spot.boxes mult p walks boxes priced fit) in λ i. priced.priced.base i +ℤ terms i

  pub closed : (terms : Option ℤ) → IsTermSum m p walks boxes terms → IsSomeAnd terms (λ (total : ℤ). scaled (z -ℤ pos 1) <ℤ (p.base +ℤ total)) → IsCountClose m z spot walks boxes mult
  closed None sum above = absurd above
  closed (Some total) sum above = record {
    defined = priced.priced.defined;
    near = near_from sum.near;
    above = subst (λ (x : ℤ). scaled (z -ℤ pos 1) <ℤ x) (whole total sum.is) above;
  }

  pub not_closed : (terms : Option ℤ) → IsTermSum m p walks boxes terms → ¬ (IsSomeAnd terms (λ (total : ℤ). scaled (z -ℤ pos 1) <ℤ (p.base +ℤ total))) → ¬ (CountsClose m z spot walks boxes mult)
  not_closed None sum below close = sum (near_to close.near)
  not_closed (Some total) sum below close = below (subst (λ (x : ℤ). scaled (z -ℤ pos 1) <ℤ x) (sym (whole total sum.is)) close.above)

-- the same as code reads it
pub as_read : (z y base b : ℤ) (terms : Option ℤ) → y ≡ z → b ≡ base → IsSomeAnd terms (λ (total : ℤ). scaled (y -ℤ pos 1) <ℤ (b +ℤ total)) → IsSomeAnd terms (λ (total : ℤ). scaled (z -ℤ pos 1) <ℤ (base +ℤ total))
as_read z y base b terms read_z read_b above =
    subst (λ (x : ℤ). IsSomeAnd terms (λ (total : ℤ). scaled (x -ℤ pos 1) <ℤ (base +ℤ total))) read_z (subst (λ (x : ℤ). IsSomeAnd terms (λ (total : ℤ). scaled (y -ℤ pos 1) <ℤ (x +ℤ total))) read_b above)

pub base_fits : (base : ℤ) → IsWithin (2 ^ 107) base → FitsSigned w128 base
base_fits base near = omega (arith, ints, near.0, near.1)

-- a walk's arcs one by one make what it was priced to
pub walk_told : (m : ModelParts) (p : Priced) (w : Walk) (r start : ℤ) (graph : GraphParts) (arcs visits : List ℤ) (along : List ℕ) → r ≡ start +ℤ sum_over (step_cost graph arcs visits) along
    → start ≡ int_at p.starts w.graph → graph ≡ graph_in m.graphs w.graph → arcs ≡ slice_index_or p.arcs w.graph [] → visits ≡ p.visits → along ≡ w.arcs → r ≡ priced_cost m p w
walk_told m p w r start graph arcs visits along made is_start is_graph is_arcs is_visits is_along =
    made ∙ (λ i. is_start i +ℤ sum_over (step_cost (is_graph i) (is_arcs i) (is_visits i)) (is_along i))

-- a product as code makes it
pub high_times : (cost r : ℤ) (box : Span) → IsWithin (2 ^ 88) cost → IsCountBox box → ¬ (pos 0 ≤ℤ cost) → FitsSigned w128 cost → FitsSigned w64 box.high → FitsSigned w128 r
    → r ≡ to_z w128 (of_z w128 cost) *ℤ to_z w64 (of_z w64 box.high) → IsWithin (2 ^ 88 * unsigned_abs box.high) (to_z w128 (of_z w128 r))
high_times cost r box near fits less fits_c fits_h fits_r made =
    let told : r ≡ cost *ℤ box.high = made ∙ (λ i. to_z-of_z w128 cost fits_c i *ℤ to_z-of_z w64 box.high fits_h i) in
    let is = term_below cost box less in
    subst (IsWithin (2 ^ 88 * unsigned_abs box.high)) (is ∙ (sym told ∙ sym (to_z-of_z w128 r fits_r))) (term_near cost box near fits)
