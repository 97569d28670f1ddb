-- Near lists that the lines of a certificate's text tell.
use Rattle.std.proofs.Common.{◌≡◌, ℕ, ◌+◌, List, [], ◌∷◌, ◌++◌, All, length, refl, ap, arith}
use Rattle.std.proofs.Math.ListN.{get_or-map}
use Rattle.std.proofs.lemmas.List.{length-map}
use Rattle.std.proofs.lemmas.List.Elements.{All-cons, All-nil}
use Rattle.std.proofs.lemmas.List.FromFn.{length-map-range_with_len}
use Rattle.path_graph.specs.declared.set_bits.SetBits.{SetBits}
use Rattle.path_graph.specs.Walk.{GraphParts}
use Rattle.route_model.specs.Parts.{ModelParts, graph_in}
use Rattle.ng_sets.specs.Near.{FitsGraphs}
use Rattle.line_text.specs.Items.{EachAfter}
use Rattle.certificate.specs.CertText.{NearMay}
use Rattle.certificate.specs.Sizes.{graph_at, graph_sizes, sizes_of}
use Rattle.cert_rules.specs.Meaning.{near_in, near_lists, near_sets}
use Rattle.proof_check.specs.Keeps.{IsKnown}

-- the vertex of each line is there
line_known : (m : ModelParts) (before : List (ℕ × ℕ × SetBits)) (line : ℕ × ℕ × SetBits) → NearMay (sizes_of m) before line → IsKnown m line
line_known m before line may =
    let count : (graph_at (sizes_of m) line.0).vertices ≡ length (graph_in m.graphs line.0).vertices = ap (λ s. s.vertices) (get_or-map graph_sizes m.graphs line.0 (graph_in [] 0)) in
    (omega (arith, may.0, length-map m.graphs graph_sizes), omega (arith, may.2, count))

lines_after : (m : ModelParts) (before lines : List (ℕ × ℕ × SetBits)) → EachAfter (NearMay (sizes_of m)) before lines → All (IsKnown m) lines
lines_after m before [] each = All-nil (IsKnown m)
lines_after m before (line ∷ lines) each = All-cons (IsKnown m) line lines (line_known m before line each.0) (lines_after m (before ++ line ∷ []) lines each.1)

pub lines_known : (m : ModelParts) (lines : List (ℕ × ℕ × SetBits)) → EachAfter (NearMay (sizes_of m)) [] lines → All (IsKnown m) lines
lines_known m lines each = lines_after m [] lines each

-- the lists have one for each vertex of each graph
shape_from : (lines : List (ℕ × ℕ × SetBits)) (g : ℕ) (graphs : List GraphParts) → FitsGraphs (near_in lines g graphs) graphs
shape_from lines g [] = refl
shape_from lines g (graph ∷ graphs) = λ i. length-map-range_with_len (near_sets lines g) 0 (length graph.vertices) i ∷ shape_from lines (g + 1) graphs i

pub near_shape : (m : ModelParts) (lines : List (ℕ × ℕ × SetBits)) → FitsGraphs (near_lists m lines) m.graphs
near_shape m lines = shape_from lines 0 m.graphs
