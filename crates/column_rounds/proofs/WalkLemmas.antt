-- Lemmas on the graphs of walks and their near lists.
use Rattle.std.proofs.Common.{◌≡◌, ℕ, ◌<◌, List, [], length, get_or, sym, ◌∙◌, ap, arith}
use Rattle.std.proofs.lemmas.List.{get_or-map, length-map}
use Rattle.path_graph.specs.declared.set_bits.SetBits.{SetBits}
use Rattle.path_graph.specs.Walk.{GraphParts}
use Rattle.route_model.specs.declared.plan.Taken.{Taken}
use Rattle.route_model.specs.Parts.{ModelParts, graph_in}
use Rattle.ng_sets.specs.Near.{FitsGraphs, HasShape, IsVertex, graph_at}
use Rattle.ng_sets.specs.Returns.{AreThere}
use Rattle.ng_sets.specs.Widening.{FitsGraph}
use Rattle.ng_sets.proofs.NearLemmas.{vertex_kept}
use Rattle.ng_sets.proofs.WideningLemmas.{walk_inside}
use Rattle.column_rounds.specs.Walks.{IsWalkIn}

-- the lists of one of the graphs
pub fits_graph : (near : List (List SetBits)) (graphs : List GraphParts) (g : ℕ) → FitsGraphs near graphs → g < length graphs → FitsGraph near g (graph_in graphs g)
fits_graph near graphs g fits inside = (there, same) where
  there : g < length near
  there = omega (arith, inside, sym (length-map near length) ∙ ap (λ (ns : List ℕ). length ns) fits ∙ length-map graphs (λ g. length g.vertices))

  same : length (graph_at near g) ≡ length (graph_in graphs g).vertices
  same = sym (get_or-map length near g [] 0 there) ∙ (ap (λ (ns : List ℕ). get_or ns g 0) fits ∙ get_or-map (λ (g : GraphParts). length g.vertices) graphs g (graph_in [] 0) 0 inside)

pub arcs_there : (m : ModelParts) (t : Taken) → IsWalkIn m t → AreThere (graph_in m.graphs t.graph) t.arcs
arcs_there m t is = walk_inside (graph_in m.graphs t.graph) t.arcs is.feasible

-- a vertex of one of the graphs, whatever was put near others
pub vertex_listed : (old new : List (List SetBits)) (graphs : List GraphParts) (g v : ℕ) (graph : GraphParts) → FitsGraphs old graphs → HasShape old new → g < length graphs
    → graph_in graphs g ≡ graph → v < length graph.vertices → IsVertex new g v
vertex_listed old new graphs g v graph fits shape inside is below =
    let listed = fits_graph old graphs g fits inside in
    vertex_kept old new g v shape (listed.0, omega (arith, listed.1, ap (λ (x : GraphParts). length x.vertices) is, below))
