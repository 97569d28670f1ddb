use Rattle.std.proofs.Common.{◌≡◌, [], sym, ◌∙◌, ap, subst}
use Rattle.path_graph.specs.Walk.{GraphParts}
use Rattle.route_model.specs.Parts.{ModelParts, graph_in}
use Rattle.ng_sets.specs.Widening.{FitsGraph}
use Rattle.column_rounds.proofs.WalkLemmas.{fits_graph}
use Rattle.column_tests.proofs.widening.widened.Goals as goal

pub widen-requires-clause-lists : goal.widen-requires-clause-lists
widen-requires-clause-lists c =
    let m = c.args.model.now in
    let is : graph_in m.graphs 0 ≡ c.at-graph.result.now = ap (λ (x : ModelParts). graph_in x.graphs 0) (sym c.model.view_is) ∙ c.at-graph.ensures (graph_in [] 0) in
    subst (λ (g : GraphParts). FitsGraph c.args.near.now 0 g) is (fits_graph c.args.near.now m.graphs 0 c.requires.near c.requires.graph)
