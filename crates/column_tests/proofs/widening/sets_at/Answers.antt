use Rattle.std.proofs.Common.{◌≡◌, [], refl, sym, ◌∙◌, ap, arith}
use Rattle.route_model.specs.Parts.{ModelParts, graph_in}
use Rattle.column_rounds.proofs.WalkLemmas.{vertex_listed}
use Rattle.column_tests.proofs.widening.sets_at.Goals as goal

pub at-requires : goal.at-requires
at-requires c =
    let m = c.args.model.now in
    let near = c.args.near.now in
    let is : graph_in m.graphs 0 ≡ c.at-graph.result.now = ap (λ (x : ModelParts). graph_in x.graphs 0) (sym c.model.view_is) ∙ c.at-graph.ensures (graph_in [] 0) in
    vertex_listed near near m.graphs 0 c.args.v c.at-graph.result.now c.requires.near refl c.requires.graph is (omega (arith, c.vertex_count.ensures.count, c.if-v-vertex_count.false))
