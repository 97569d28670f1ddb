use Rattle.std.proofs.Common.{◌≡◌, List, [], ℕ, sym, ◌∙◌, ap, subst}
use Rattle.path_graph.specs.Walk.{GraphParts}
use Rattle.route_model.specs.Parts.{ModelParts, graph_in}
use Rattle.ng_sets.specs.Returns.{AreThere}
use Rattle.ng_sets.specs.Widening.{FitsGraph}
use Rattle.column_rounds.proofs.WalkLemmas.{arcs_there, fits_graph}
use Rattle.column_rounds.proofs.adding.is_widened.Goals as goal

pub comes_back-requires : goal.comes_back-requires
comes_back-requires c =
    let m = c.args.model.now in
    let t = c.args.walk.now in
    let is : graph_in m.graphs t.graph ≡ c.at-graph.result.now = ap (λ (x : ModelParts). graph_in x.graphs t.graph) (sym c.model.view_is) ∙ c.at-graph.ensures (graph_in [] 0) in
    let same : t.arcs ≡ c.as_slice-arcs.result.now = sym c.as_slice-arcs.ensures in
    subst (λ (g : GraphParts). AreThere g c.as_slice-arcs.result.now) is (subst (λ (arcs : List ℕ). AreThere (graph_in m.graphs t.graph) arcs) same (arcs_there m t c.requires.walk))

pub widen-requires-clause-lists : goal.widen-requires-clause-lists
widen-requires-clause-lists c =
    let m = c.args.model.now in
    let t = c.args.walk.now in
    let is : graph_in m.graphs t.graph ≡ c.at-graph.result.now = ap (λ (x : ModelParts). graph_in x.graphs t.graph) (sym c.model.view_is) ∙ c.at-graph.ensures (graph_in [] 0) in
    subst (λ (g : GraphParts). FitsGraph c.args.near.now t.graph g) is (fits_graph c.args.near.now m.graphs t.graph c.requires.near c.requires.walk.graph)
