use Rattle.std.proofs.Common.{[], length, sym, ◌∙◌, ap, subst, arith, List}
use Rattle.std.proofs.lemmas.Bool.{false≢true}
use Rattle.path_graph.specs.Walk.{GraphParts}
use Rattle.route_model.specs.Parts.{ModelParts, graph_in}
use Rattle.ng_sets.specs.Near.{FitsGraphs}
use Rattle.test_places.proofs.NearLemmas.{near_vertex, some_items}
use Rattle.test_places.proofs.said.put_near.Goals as goal

pub put-requires : goal.put-requires
put-requires c =
    let graphs : List GraphParts = c.model.inside.graphs in
    let same = ap (λ (m : ModelParts). m.graphs) c.model.view_is in
    let fits = subst (λ (gs : List GraphParts). FitsGraphs c.args.near.now gs) (sym same) c.requires in
    let some = some_items graphs (λ e. false≢true (sym c.if-is_empty.false ∙ c.is_empty.ensures.1 e)) in
    let first = ap (λ (g : GraphParts). length g.vertices) (c.at.ensures (graph_in [] 0)) in
    near_vertex c.args.near.now graphs 0 c.in_ok-vertex-2.vertex fits some (omega (arith, first, c.vertex_count.ensures.count, c.if-vertex-vertex_count.false))
