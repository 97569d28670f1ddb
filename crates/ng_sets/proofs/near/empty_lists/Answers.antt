use Rattle.ng_sets.proofs.NearLemmas.{graph_more, none_anywhere}
use Rattle.ng_sets.proofs.near.empty_lists.Goals as goal

pub loop-graph-init : goal.loop-graph-init
loop-graph-init c = none_anywhere c.new-lists.result.items c.new-lists.ensures.items

pub loop-graph-preserved : goal.loop-graph-preserved
loop-graph-preserved c =
    graph_more c.loop-graph.lists.items c.push.new.self.items c.in_ok-nothing_near.field-0 c.args.graphs.now c.loop-graph.graph-index c.graph-item.result
    c.in_ok-push.ensures.items c.loop-graph-test.true c.graph-item.is c.loop-graph.invariant c.in_ok-nothing_near.ensures
