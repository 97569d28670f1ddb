use Rattle.std.proofs.Common.{◌≡◌, ◌<◌, [], length, sym, ◌∙◌, ap, arith}
use Rattle.route_model.specs.Parts.{ModelParts, graph_in}
use Rattle.column_rounds.proofs.WalkLemmas.{vertex_listed}
use Rattle.column_rounds.proofs.nearest.put_nearest.Goals as goal

pub put-requires : goal.put-requires
put-requires c =
    let m = c.args.model.now in
    let g = c.loop-g.g in
    let size = ap (λ (x : ModelParts). length x.graphs) c.model.view_is in
    let there : g < length m.graphs = omega (arith, c.loop-g-test.true, c.len-g-end.ensures, size) in
    let is : graph_in m.graphs g ≡ c.at-graph.result.now = ap (λ (x : ModelParts). graph_in x.graphs g) (sym c.model.view_is) ∙ c.at-graph.ensures (graph_in [] 0) in
    vertex_listed c.args.near.now c.loop-v.near m.graphs g c.loop-v.v c.at-graph.result.now c.requires c.loop-v.invariant there is
    (omega (arith, c.loop-v-test.true, c.vertex_count-v-end.ensures.count))
