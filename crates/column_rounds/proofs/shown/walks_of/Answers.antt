use Rattle.std.proofs.Common.{◌<◌, Some, length, sym, ◌∙◌, ap, subst, arith, All}
use Rattle.std.proofs.lemmas.List.Elements.{All-append}
use Rattle.std.proofs.lemmas.Option.{slice_get-get_or}
use Rattle.route_model.specs.Parts.{ModelParts}
use Rattle.column_rounds.specs.Walks.{IsWalkIn}
use Rattle.column_rounds.proofs.shown.walks_of.Goals as goal

pub graph_walks-requires-clause-pair : goal.graph_walks-requires-clause-pair
graph_walks-requires-clause-pair c =
    let g = c.loop-graph.graph in
    let pair = c.index-pairs-graph.result in
    let size = ap (λ (x : ModelParts). length x.graphs) c.model.view_is in
    let inside : g < length c.args.pairs.now = omega (arith, c.loop-graph-test.true, c.len-graph-end.ensures, size, c.requires.pairs.count) in
    c.requires.pairs.each g pair (slice_get-get_or c.args.pairs.now g pair inside ∙ ap Some (sym c.index-pairs-graph.is))

pub loop-graph-preserved : goal.loop-graph-preserved
loop-graph-preserved c =
    let P = IsWalkIn c.args.task.now.model.now in
    let more = subst (All P) (sym c.into_vec.ensures) c.in_ok-found.ensures in
    subst (All P) (sym c.in_ok-append.ensures.items) (All-append P c.loop-graph.walks.items c.into_vec.result.items c.loop-graph.invariant more)
