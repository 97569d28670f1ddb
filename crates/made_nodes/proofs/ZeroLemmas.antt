-- Multipliers that are all 0 need no open side, and prove the scaled costs alone.
use Rattle.std.proofs.Common.{◌≡◌, ℕ, suc, ◌*◌, ◌^◌, ◌<◌, ◌≤◌, ℤ, pos, neg_ℤ, ◌+ℤ◌, ◌-ℤ◌, ◌*ℤ◌, Some, List, [], ◌∷◌, All, length, get_or, inl, inr, refl, sym, ap, subst, ◌∙◌, arith}
use Rattle.std.specs.Prelude.{IsSome, replicate, slice_index}
use Rattle.std.proofs.lemmas.Bool.{cases_lt}
use Rattle.std.proofs.lemmas.Int.{ints}
use Rattle.std.proofs.lemmas.List.{get_or-replicate, get_or_past, length-replicate}
use Rattle.std.proofs.lemmas.List.Elements.{All-replicate}
use Rattle.path_graph.specs.Fit.{int_at}
use Rattle.path_graph.specs.Sums.{sum_over}
use Rattle.path_graph.specs.Walk.{Leads}
use Rattle.path_graph.specs.Within.{IsWithin}
use Rattle.path_graph.proofs.SumLemmas.{sum_over-same, sum_over-zero}
use Rattle.route_model.specs.declared.multipliers.Mult.{Mult}
use Rattle.route_model.specs.declared.multipliers.Quantity.{Quantity}
use Rattle.route_model.specs.declared.multipliers.Quantity.TheVariants.{Var as OfVar, Row as OfRow, Set as OfSet, Cut as OfCut, Paths as OfPaths}
use Rattle.route_model.specs.declared.places.Boxes.{Boxes}
use Rattle.route_model.specs.declared.places.Span.{Span}
use Rattle.route_model.specs.Fit.{MapFits, ModelFits}
use Rattle.route_model.specs.Parts.{ModelParts, graph_in, mapped_vars, var_at}
use Rattle.route_model.specs.Terms.{or_zero, sides_of, term}
use Rattle.multipliers.specs.Quantities.{AreDefined, amount, base, box_at, cost_along, mult_at, quantities, reduced_cost, scaled, term_of, weighted}
use Rattle.multipliers.specs.Ranges.{MultFits}
use Rattle.multipliers.proofs.NearLemmas.{sum_near}
use Rattle.multipliers.proofs.PricedLemmas.{uses_over}
use Rattle.proof_rules.specs.Counts.{Walk}
use Rattle.proof_rules.specs.Nodes.{count_terms}
use Rattle.proof_rules.specs.NodeWalls.{no_mult}
use Rattle.cert_check.specs.Reads.{WalkFits}
use Rattle.made_nodes.specs.Zeros.{AreZeros}

-- each multiplier is 0, so its term is
pub mult_zero : (mult : Mult) → AreZeros mult → (q : Quantity) → mult_at mult q ≡ pos 0
mult_zero mult zeros (OfVar j) = zeros.vars j
mult_zero mult zeros (OfRow i) = zeros.rows i
mult_zero mult zeros (OfSet s) = zeros.sets s
mult_zero mult zeros (OfCut c) = ap (λ (weights : List ℕ). neg_ℤ (pos (slice_index weights c))) zeros.cuts
mult_zero mult zeros (OfPaths g) = zeros.paths g

pub no_mult_zeros : AreZeros no_mult
no_mult_zeros = record { vars = λ j. refl; rows = λ i. refl; sets = λ s. refl; paths = λ g. refl; cuts = refl }

term_zero : (m : ModelParts) (boxes : Boxes) (mult : Mult) (q : Quantity) → AreZeros mult → term_of m [] boxes mult q ≡ Some (pos 0)
term_zero m boxes mult q zeros = ap (λ (x : ℤ). term x (box_at m [] boxes q)) (mult_zero mult zeros q)

pub zeros_defined : (m : ModelParts) (boxes : Boxes) (mult : Mult) → AreZeros mult → AreDefined m [] boxes mult
zeros_defined m boxes mult zeros k d below = subst IsSome (sym (term_zero m boxes mult (get_or (quantities m []) k d) zeros)) refl

pub zeros_base : (m : ModelParts) (boxes : Boxes) (mult : Mult) → AreZeros mult → base m [] boxes mult ≡ pos 0
zeros_base m boxes mult zeros =
    sum_over-same (λ (q : Quantity). or_zero (term_of m [] boxes mult q)) (λ (q : Quantity). pos 0) (quantities m []) (λ q. ap or_zero (term_zero m boxes mult q zeros))
    ∙ sum_over-zero (quantities m [])

-- a walk costs what its variables do
weighted_zero : (m : ModelParts) (mult : Mult) (had : Quantity → ℤ) → AreZeros mult → weighted m [] mult had ≡ pos 0
weighted_zero m mult had zeros =
    sum_over-same (λ (q : Quantity). mult_at mult q *ℤ had q) (λ (q : Quantity). pos 0) (quantities m []) (λ q. nothing (mult_at mult q) (had q) (mult_zero mult zeros q))
    ∙ sum_over-zero (quantities m [])
  where
    times : (x : ℤ) → pos 0 *ℤ x ≡ pos 0
    times x = omega (arith, ints)

    nothing : (y x : ℤ) → y ≡ pos 0 → y *ℤ x ≡ pos 0
    nothing y x e = ap (λ (z : ℤ). z *ℤ x) e ∙ times x

pub zeros_cost : (m : ModelParts) (mult : Mult) (g : ℕ) (arcs : List ℕ) → AreZeros mult → reduced_cost m [] mult g arcs ≡ scaled (cost_along m g arcs)
zeros_cost m mult g arcs zeros = without (scaled (cost_along m g arcs)) _ (weighted_zero m mult (λ q. amount m [] q g arcs) zeros)
  where
    without : (x y : ℤ) → y ≡ pos 0 → x -ℤ y ≡ x
    without x y e = omega (arith, ints, e)

pub zeros_reduced : (m : ModelParts) (a b : Mult) (g : ℕ) (arcs : List ℕ) → AreZeros a → AreZeros b → reduced_cost m [] a g arcs ≡ reduced_cost m [] b g arcs
zeros_reduced m a b g arcs zeros_a zeros_b = zeros_cost m a g arcs zeros_a ∙ sym (zeros_cost m b g arcs zeros_b)

pub zeros_terms : (m : ModelParts) (a b : Mult) (walks : List Walk) (boxes : List Span) → AreZeros a → AreZeros b → count_terms m a walks boxes ≡ count_terms m b walks boxes
zeros_terms m a b [] boxes zeros_a zeros_b = refl
zeros_terms m a b (w ∷ walks) [] zeros_a zeros_b = refl
zeros_terms m a b (w ∷ walks) (box ∷ boxes) zeros_a zeros_b =
    λ i. or_zero (term (zeros_reduced m a b w.graph w.arcs zeros_a zeros_b i) (sides_of box)) +ℤ zeros_terms m a b walks boxes zeros_a zeros_b i

-- at most 16 variables an arc, each within 10^9 of 0, and at most 2^25 arcs
abbrev cost_at : ModelParts → ℕ → ℤ
cost_at m j = (var_at m.vars j).cost

arc_small : (m : ModelParts) (g a : ℕ) → ModelFits m → g < length m.graphs → a < length (graph_in m.graphs g).arcs → IsWithin 16000000000 (sum_over (cost_at m) (mapped_vars m.maps g a))
arc_small m g a fits inside below =
    let maps = fits.maps.each g inside in
    let map_fits : MapFits (length m.vars) (mapped_vars m.maps g a) = maps.each a [] (omega (arith, maps.arcs, below)) in
    let near = sum_near (cost_at m) 1000000000 (mapped_vars m.maps g a) (λ k d l. (fits.vars.each (get_or (mapped_vars m.maps g a) k d) _ (map_fits.each k d l)).cost) in
    let most : length (mapped_vars m.maps g a) * 1000000000 ≤ 16000000000 = omega (arith, map_fits.few) in
    (omega (arith, ints, near.0, most), omega (arith, ints, near.1, most))

arcs_small : (m : ModelParts) (g v w : ℕ) (arcs : List ℕ) → ModelFits m → g < length m.graphs → Leads (graph_in m.graphs g) v arcs w
    → IsWithin (length arcs * 16000000000) (sum_over (λ a. sum_over (cost_at m) (mapped_vars m.maps g a)) arcs)
arcs_small m g v w [] fits inside leads = (omega (arith, ints), omega (arith, ints))
arcs_small m g v w (a ∷ arcs) fits inside leads =
    more (length arcs) _ _ (arc_small m g a fits inside leads.0) (arcs_small m g _ w arcs fits inside leads.2)
  where
    more : (n : ℕ) (x y : ℤ) → IsWithin 16000000000 x → IsWithin (n * 16000000000) y → IsWithin (suc n * 16000000000) (x +ℤ y)
    more n x y h k = (omega (arith, ints, h.0, k.0), omega (arith, ints, h.1, k.1))

pub zeros_near : (m : ModelParts) (mult : Mult) (w : Walk) → ModelFits m → AreZeros mult → WalkFits m w → IsWithin (2 ^ 88) (reduced_cost m [] mult w.graph w.arcs)
zeros_near m mult w fits zeros walk =
    let graph = graph_in m.graphs w.graph in
    let along = uses_over m (cost_at m) w.graph graph.ends.source graph.ends.sink w.arcs fits walk.graph walk.there in
    let small = arcs_small m w.graph graph.ends.source graph.ends.sink w.arcs fits walk.graph walk.there in
    joined (length w.arcs) _ _ _ walk.few (zeros_cost m mult w.graph w.arcs zeros) along small
  where
    joined : (n : ℕ) (reduced cost sum : ℤ) → n ≤ 2 ^ 25 → reduced ≡ scaled cost → cost ≡ sum → IsWithin (n * 16000000000) sum → IsWithin (2 ^ 88) reduced
    joined n reduced cost sum few is same near = (omega (arith, ints, few, is, same, near.0), omega (arith, ints, few, is, same, near.1))

-- multipliers as they are made
zero_at : (n k : ℕ) → int_at (replicate n (pos 0)) k ≡ pos 0
zero_at n k = elim (cases_lt k n) [
  | inl inside ↦ get_or-replicate n k (pos 0) (pos 0) inside
  | inr past ↦ get_or_past (replicate n (pos 0)) k (pos 0) (omega (arith, length-replicate n (pos 0), past))
]

is_zero : (xs : List ℤ) (n k : ℕ) → xs ≡ replicate n (pos 0) → int_at xs k ≡ pos 0
is_zero xs n k is = ap (λ (ys : List ℤ). int_at ys k) is ∙ zero_at n k

pub made_zeros : (mult : Mult) (vars rows sets paths : ℕ) → mult.vars ≡ replicate vars (pos 0) → mult.rows ≡ replicate rows (pos 0) → mult.sets ≡ replicate sets (pos 0) → mult.paths ≡ replicate paths (pos 0) → mult.cuts ≡ []
    → AreZeros mult
made_zeros mult vars rows sets paths of_vars of_rows of_sets of_paths none = record {
  vars = λ j. is_zero mult.vars vars j of_vars;
  rows = λ i. is_zero mult.rows rows i of_rows;
  sets = λ s. is_zero mult.sets sets s of_sets;
  paths = λ g. is_zero mult.paths paths g of_paths;
  cuts = none;
}

zeros_small : (xs : List ℤ) (n : ℕ) → xs ≡ replicate n (pos 0) → All (IsWithin (2 ^ 48)) xs
zeros_small xs n is = subst (All (IsWithin (2 ^ 48))) (sym is) (All-replicate (IsWithin (2 ^ 48)) n (pos 0) (omega (arith, ints), omega (arith, ints)))

as_many : (xs : List ℤ) (n : ℕ) → xs ≡ replicate n (pos 0) → length xs ≡ n
as_many xs n is = ap length is ∙ length-replicate n (pos 0)

pub made_fit : (m : ModelParts) (mult : Mult) → mult.vars ≡ replicate (length m.vars) (pos 0) → mult.rows ≡ replicate (length m.rows) (pos 0) → mult.sets ≡ replicate m.sets (pos 0) → mult.paths ≡ replicate (length m.graphs) (pos 0)
    → MultFits m mult
made_fit m mult of_vars of_rows of_sets of_paths = record {
  vars = as_many mult.vars (length m.vars) of_vars;
  each_var = zeros_small mult.vars (length m.vars) of_vars;
  rows = as_many mult.rows (length m.rows) of_rows;
  each_row = zeros_small mult.rows (length m.rows) of_rows;
  sets = as_many mult.sets m.sets of_sets;
  each_set = zeros_small mult.sets m.sets of_sets;
  paths = as_many mult.paths (length m.graphs) of_paths;
  each_path = zeros_small mult.paths (length m.graphs) of_paths;
}
