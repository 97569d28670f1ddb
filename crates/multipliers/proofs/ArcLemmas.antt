-- Steps of the loops that price arcs.
use Rattle.std.proofs.Common.{◌≡◌, ℕ, suc, ◌+◌, ◌*◌, ◌^◌, ◌<◌, ◌≤◌, ℤ, pos, neg_ℤ, ◌+ℤ◌, FitsSigned, to_z, of_z, List, [], ◌∷◌, map, take, length, get_or, All, Option, None, Some, refl, sym, ◌∙◌, ap, subst, arith}
use Rattle.std.proofs.lemmas.Int.{ints, to_z-of_z}
use Rattle.std.specs.Int.{w128}
use Rattle.std.proofs.lemmas.List.{get_or_default, take_more}
use Rattle.std.proofs.Math.ListN.{get_or-map}
use lib.IntN.{+ℤ_idr}
use Rattle.path_graph.specs.Within.{IsWithin}
use Rattle.std.specs.Prelude.{slice_index_or}
use Rattle.path_graph.specs.Fit.{int_at}
use Rattle.route_model.specs.Fit.{MapFits, ModelFits}
use Rattle.route_model.specs.Parts.{ModelParts, graph_in}
use Rattle.route_model.specs.declared.multipliers.Mult.{Mult}
use Rattle.route_model.specs.declared.multipliers.Priced.{Priced}
use Rattle.multipliers.specs.Priced.{arc_cost, arcs_cost, priced_walk, reduced_unit, start_cost, visit_cost, visit_mult}
use Rattle.path_graph.specs.Visits.{visit_over}
use Rattle.multipliers.specs.Ranges.{AreUnits}
use Rattle.path_graph.specs.Sums.{sum_over}
use Rattle.path_graph.proofs.SumLemmas.{sum_over-append}

-- the sum over the items so far, each within 2^102 of 0
pub record IsSumSoFar (f : ℕ → ℤ) (xs : List ℕ) (n : ℕ) (total : ℤ) : Type 0 where
  pub sum : total ≡ sum_over f xs
  pub within : IsWithin (n * 2 ^ 102) total

pub sum_step : (f : ℕ → ℤ) (xs : List ℕ) (n : ℕ) (total x y : ℤ) → n < length xs → n ≤ 16 → IsSumSoFar f (take n xs) n total → IsWithin (2 ^ 102) x → x ≡ f (get_or xs n 0)
    → y ≡ total +ℤ to_z w128 (of_z w128 x) → IsSumSoFar f (take (n + 1) xs) (n + 1) (to_z w128 (of_z w128 y))
sum_step f xs n total x y below few before small is made =
    let fits_x : FitsSigned w128 x = omega (arith, ints, small.0, small.1) in
    let told : y ≡ total +ℤ x = made ∙ ap (λ (z : ℤ). total +ℤ z) (to_z-of_z w128 x fits_x) in
    let fits_y : FitsSigned w128 y = omega (arith, ints, told, before.within.0, before.within.1, small.0, small.1) in
    let read : to_z w128 (of_z w128 y) ≡ total +ℤ x = to_z-of_z w128 y fits_y ∙ told in
    let more : sum_over f (take (n + 1) xs) ≡ sum_over f (take n xs) +ℤ f (get_or xs n 0) =
    ap (sum_over f) (take_more xs n 0 below) ∙ (sum_over-append f (take n xs) (get_or xs n 0 ∷ []) ∙ ap (λ (z : ℤ). sum_over f (take n xs) +ℤ z) (+ℤ_idr (f (get_or xs n 0)))) in
    record {
      sum = read ∙ ((λ i. before.sum i +ℤ is i) ∙ sym more);
      within = (omega (arith, ints, read, before.within.0, small.0), omega (arith, ints, read, before.within.1, small.1));
    }

-- the variables of the arcs are declared
pub all_maps_fit : (m : ModelParts) → ModelFits m → All (All (MapFits (length m.vars))) m.maps
all_maps_fit m fits k d below =
    let inside : k < length m.graphs = omega (arith, fits.maps.graphs_mapped) in
    subst (All (MapFits (length m.vars))) (get_or_default m.maps k [] d below) (fits.maps.each k inside).each

-- lists that are made alike
map_each : {X Y : Type 0} (f h : X → Y) (xs : List X) → All (λ x. f x ≡ h x) xs → map f xs ≡ map h xs
map_each f h [] each = refl
map_each f h (x ∷ xs) each = λ i. each 0 x (omega arith) i ∷ map_each f h xs (λ k d l. each (suc k) d (omega arith)) i

sum_over_each : (f h : ℕ → ℤ) (xs : List ℕ) → All (λ x. f x ≡ h x) xs → sum_over f xs ≡ sum_over h xs
sum_over_each f h [] each = refl
sum_over_each f h (x ∷ xs) each = λ i. each 0 x (omega arith) i +ℤ sum_over_each f h xs (λ k d l. each (suc k) d (omega arith)) i

pub arcs_told : (m : ModelParts) (mult : Mult) (units : List ℤ) → ModelFits m → AreUnits m mult units → map (map (sum_over (int_at units))) m.maps ≡ map (map (sum_over (reduced_unit m mult))) m.maps
arcs_told m mult units fits are =
    map_each (map (sum_over (int_at units))) (map (sum_over (reduced_unit m mult))) m.maps
    (λ g d below. map_each (sum_over (int_at units)) (sum_over (reduced_unit m mult)) (get_or m.maps g d)
    (λ a e inside. sum_over_each (int_at units) (reduced_unit m mult) (get_or (get_or m.maps g d) a e)
    (λ k v there. are.each (get_or (get_or (get_or m.maps g d) a e) k v) ((all_maps_fit m fits g d below a e inside).each k v there))))

-- the priced numbers of a walk
turned_at : (mults : List ℤ) (k : ℕ) → int_at (map neg_ℤ mults) k ≡ neg_ℤ (int_at mults k)
turned_at mults k = get_or-map neg_ℤ mults k (pos 0)

visit_told : (mult : Mult) (visit : Option ℕ) → visit_cost (map neg_ℤ mult.sets) visit ≡ neg_ℤ (visit_mult mult visit)
visit_told mult None = refl
visit_told mult (Some s) = turned_at mult.sets s

arc_told : (m : ModelParts) (mult : Mult) (g a : ℕ) → int_at (slice_index_or (map (map (sum_over (reduced_unit m mult))) m.maps) g []) a ≡ arc_cost m mult g a
arc_told m mult g a =
    let sums = sum_over (reduced_unit m mult) in
    ap (λ (costs : List ℤ). int_at costs a) (get_or-map (map sums) m.maps g []) ∙ get_or-map sums (get_or m.maps g []) a []

pub walk_told : (m : ModelParts) (mult : Mult) (p : Priced) (g : ℕ) (arcs : List ℕ) → p.arcs ≡ map (map (sum_over (reduced_unit m mult))) m.maps → p.visits ≡ map neg_ℤ mult.sets → p.starts ≡ map neg_ℤ mult.paths
    → priced_walk m p g arcs ≡ start_cost mult g +ℤ arcs_cost m mult g arcs
walk_told m mult p g arcs is_arcs is_visits is_starts =
    let visit : ℕ → Option ℕ = visit_over (graph_in m.graphs g) in
    (λ i. int_at (is_starts i) g +ℤ sum_over (λ a. int_at (slice_index_or (is_arcs i) g []) a +ℤ visit_cost (is_visits i) (visit a)) arcs)
    ∙ (λ i. turned_at mult.paths g i +ℤ sum_over (λ a. arc_told m mult g a i +ℤ visit_told mult (visit a) i) arcs)
