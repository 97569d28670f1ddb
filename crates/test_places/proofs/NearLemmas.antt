-- Near lists that fit graphs have a list for each vertex.
use Rattle.std.proofs.Common.{◌≡◌, ℕ, ◌<◌, List, [], ◌∷◌, refl, length, get_or, map, sym, ◌∙◌, ap, arith}
use Rattle.std.proofs.lemmas.List.{get_or-map, length-map}
use Rattle.path_graph.specs.declared.set_bits.SetBits.{SetBits}
use Rattle.path_graph.specs.Walk.{GraphParts}
use Rattle.route_model.specs.Parts.{graph_in}
use Rattle.ng_sets.specs.Near.{FitsGraphs, IsVertex}

pub near_vertex : (near : List (List SetBits)) (graphs : List GraphParts) (g v : ℕ) → FitsGraphs near graphs → g < length graphs → v < length (graph_in graphs g).vertices → IsVertex near g v
near_vertex near graphs g v fits there inside =
    let same = ap length fits in
    let first = length-map near (λ (sets : List SetBits). length sets) in
    let second = length-map graphs (λ (graph : GraphParts). length graph.vertices) in
    let listed : g < length near = omega (arith, same, first, second, there) in
    let count = sym (get_or-map (λ (sets : List SetBits). length sets) near g [] 0 listed) ∙ (ap (λ (xs : List ℕ). get_or xs g 0) fits
    ∙ get_or-map (λ (graph : GraphParts). length graph.vertices) graphs g (graph_in [] 0) 0 there) in
    (listed, omega (arith, count, inside))

pub some_items : {X : Type 0} (xs : List X) → ¬ (xs ≡ []) → 0 < length xs
some_items [] h = absurd (h refl)
some_items (x ∷ xs) h = omega arith
