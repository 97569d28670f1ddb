-- What listed walks cost, as code adds it up, and the terms of their costs.
use Rattle.std.proofs.Common.{◌≡◌, ℕ, ◌+◌, ◌*◌, ◌^◌, ◌<◌, ◌≤◌, ℤ, pos, ◌+ℤ◌, FitsSigned, to_z, of_z, List, [], ◌∷◌, ◌++◌, All, length, take, get_or, mul-le-mul_right, refl, ap, subst, sym, ◌∙◌, arith}
use Rattle.std.specs.Prelude.{slice_index_or}
use Rattle.std.specs.Int.{w128}
use Rattle.std.proofs.lemmas.Int.{ints, to_z-of_z}
use Rattle.std.proofs.lemmas.List.{map-append, take_all, take_more}
use Rattle.std.proofs.lemmas.List.Elements.{All-map}
use Rattle.path_graph.specs.Sums.{sum_over}
use Rattle.path_graph.specs.Within.{IsWithin}
use Rattle.path_graph.proofs.SumLemmas.{sum_over-append}
use Rattle.route_model.specs.declared.places.Span.{Span}
use Rattle.route_model.specs.declared.places.Spot.{Spot}
use Rattle.route_model.specs.Fit.{ModelFits}
use Rattle.route_model.specs.Parts.{ModelParts, graph_in}
use Rattle.route_model.specs.Terms.{or_zero, sides_of, term}
use Rattle.multipliers.specs.Quantities.{cost_along}
use Rattle.multipliers.proofs.ArcLemmas.{all_maps_fit}
use Rattle.multipliers.proofs.PricedLemmas.{uses_over}
use Rattle.proof_rules.specs.Counts.{Walk}
use Rattle.proof_rules.specs.Nodes.{count_terms}
use Rattle.proof_rules.specs.NodeWalls.{no_mult}
use Rattle.cert_check.specs.Reads.{WalkFits}
use Rattle.walk_list.specs.declared.walks.ListedWalk.{ListedWalk}
use Rattle.walk_list.specs.Walks.{walk_said, walks_said}
use Rattle.made_nodes.specs.Zeros.{zero_bound}
use Rattle.made_nodes.proofs.ZeroLemmas.{no_mult_zeros, zeros_base, zeros_cost, zeros_near}
use Rattle.count_trees.proofs.PointLemmas.{walks_more}
use Rattle.count_trees.specs.Costs.{arcs_cost, cost_at, cost_terms, walk_cost, walk_costs}

-- one item more of a sum
pub sum_more : (f : ℕ → ℤ) (xs : List ℕ) (k d n most : ℕ) (total r next : ℤ) → k < length xs → length xs ≤ most → most * n ≤ 2 ^ 120 → total ≡ sum_over f (take k xs) → IsWithin (k * n) total
    → r ≡ f (get_or xs k d) → IsWithin n r → next ≡ total +ℤ to_z w128 (of_z w128 r)
    → (to_z w128 (of_z w128 next) ≡ sum_over f (take (k + 1) xs)) × IsWithin ((k + 1) * n) (to_z w128 (of_z w128 next))
sum_more f xs k d n most total r next below few small sum near is within made =
    let all : (k + 1) * n ≤ most * n = mul-le-mul_right n (omega (arith, below, few)) in
    let one : (k + 1) * n ≡ k * n + n = omega arith in
    let fits_r : FitsSigned w128 r = omega (arith, ints, within.0, within.1, all, one, small) in
    let told : next ≡ total +ℤ r = made ∙ ap (λ (z : ℤ). total +ℤ z) (to_z-of_z w128 r fits_r) in
    let fits_next : FitsSigned w128 next = omega (arith, ints, told, within.0, within.1, near.0, near.1, all, one, small) in
    let read : to_z w128 (of_z w128 next) ≡ total +ℤ r = to_z-of_z w128 next fits_next ∙ told in
    let more : sum_over f (take (k + 1) xs) ≡ sum_over f (take k xs) +ℤ (f (get_or xs k d) +ℤ pos 0) =
    ap (sum_over f) (take_more xs k d below) ∙ sum_over-append f (take k xs) (get_or xs k d ∷ []) in (
      joined (to_z w128 (of_z w128 next)) total r _ _ _ read sum is more,
      (omega (arith, ints, read, near.0, within.0, one), omega (arith, ints, read, near.1, within.1, one)),
    )
  where
    joined : (y t r a g next : ℤ) → y ≡ t +ℤ r → t ≡ a → r ≡ g → next ≡ a +ℤ (g +ℤ pos 0) → y ≡ next
    joined y t r a g next e h k l = omega (arith, ints)

pub whole_sum : (f : ℕ → ℤ) (xs : List ℕ) (k : ℕ) (total : ℤ) → length xs ≤ k → total ≡ sum_over f (take k xs) → total ≡ sum_over f xs
whole_sum f xs k total whole is = is ∙ ap (sum_over f) (take_all k xs whole)

-- an arc maps at most 16 variables
pub few_mapped : (m : ModelParts) (g : ℕ) → ModelFits m → g < length m.graphs → All (λ (mapped : List ℕ). length mapped ≤ 16) (slice_index_or m.maps g [])
few_mapped m g fits inside k d below = (all_maps_fit m fits g [] (omega (arith, inside, fits.maps.graphs_mapped)) k d below).few

-- the arcs of a walk cost what it does
pub walk_told : (m : ModelParts) (w : Walk) → ModelFits m → WalkFits m w → arcs_cost m.vars (slice_index_or m.maps w.graph []) w.arcs ≡ cost_along m w.graph w.arcs
walk_told m w fits walk =
    let graph = graph_in m.graphs w.graph in
    sym (uses_over m (cost_at m.vars) w.graph graph.ends.source graph.ends.sink w.arcs fits walk.graph walk.there)

-- each cost of a listed walk is near 0
pub costs_small : (m : ModelParts) (walks : List Walk) → ModelFits m → All (WalkFits m) walks → All (IsWithin (2 ^ 88)) (walk_costs m walks)
costs_small m walks fits each =
    All-map (IsWithin (2 ^ 88)) (walk_cost m) walks
    (λ k d below. let w : Walk = get_or walks k d in subst (IsWithin (2 ^ 88)) (zeros_cost m no_mult w.graph w.arcs no_mult_zeros) (zeros_near m no_mult w fits no_mult_zeros (each k d below)))

pub costs_more : (m : ModelParts) (walks : List ListedWalk) (k : ℕ) (d : ListedWalk) (costs new : List ℤ) (cost : ℤ) → k < length walks → costs ≡ walk_costs m (walks_said (take k walks))
    → new ≡ costs ++ cost ∷ [] → cost ≡ walk_cost m (walk_said (get_or walks k d)) → new ≡ walk_costs m (walks_said (take (k + 1) walks))
costs_more m walks k d costs new cost below before made is =
    made ∙ ((λ i. before i ++ is i ∷ []) ∙ sym (ap (walk_costs m) (walks_more walks k d below) ∙ map-append (walk_cost m) (walks_said (take k walks)) (walk_said (get_or walks k d) ∷ [])))

-- multipliers that are all 0 prove the terms of the costs
terms_are : (m : ModelParts) (walks : List Walk) (boxes : List Span) → count_terms m no_mult walks boxes ≡ cost_terms (walk_costs m walks) boxes
terms_are m [] boxes = refl
terms_are m (w ∷ walks) [] = refl
terms_are m (w ∷ walks) (box ∷ boxes) = λ i. or_zero (term (zeros_cost m no_mult w.graph w.arcs no_mult_zeros i) (sides_of box)) +ℤ terms_are m walks boxes i

pub bound_is : (m : ModelParts) (spot : Spot) (walks : List Walk) (boxes : List Span) (sum : ℤ) → sum ≡ cost_terms (walk_costs m walks) boxes → sum ≡ zero_bound m spot walks boxes
bound_is m spot walks boxes sum is = joined sum _ _ _ is (zeros_base m spot.boxes no_mult no_mult_zeros) (terms_are m walks boxes)
  where
    joined : (s t b c : ℤ) → s ≡ t → b ≡ pos 0 → c ≡ t → s ≡ b +ℤ c
    joined s t b c e h k = omega (arith, ints)
