use Rattle.std.proofs.Common.{◌≤◌, ◌<◌, length, ◌∙◌, ap, subst, arith}
use Rattle.route_model.specs.Fit.{ModelFits}
use Rattle.route_model.specs.Parts.{ModelParts}
use Rattle.walk_list.proofs.WalkLemmas.{below_all, below_more, below_none, tree_in, walks_stand}
use Rattle.walk_list.proofs.walks.all_walks.Goals as goal

pub loop-graph-init : goal.loop-graph-init
loop-graph-init c = below_none c.args.task.now c.args.tries.now c.new-walks.result c.new-walks.ensures

pub tree_walks-requires-clause-tree : goal.tree_walks-requires-clause-tree
tree_walks-requires-clause-tree c =
    let count = c.len-graph-end.ensures ∙ ap (λ (m : ModelParts). length m.graphs) c.model.view_is in
    tree_in c.args.task.now c.args.tries.now c.loop-graph.graph c.index-tries-graph.result c.requires.task c.requires.trees (omega (arith, count, c.loop-graph-test.true)) c.index-tries-graph.is

pub loop-graph-preserved : goal.loop-graph-preserved
loop-graph-preserved c =
    let count = c.len-graph-end.ensures ∙ ap (λ (m : ModelParts). length m.graphs) c.model.view_is in
    below_more c.args.task.now c.args.tries.now c.loop-graph.graph c.index-tries-graph.result c.loop-graph.walks c.add_walks.new.walks c.in_ok-more.more c.requires.task
    (omega (arith, count, c.loop-graph-test.true, c.requires.trees.order.count_is)) c.index-tries-graph.is c.loop-graph.invariant c.in_ok-more.ensures c.in_ok-add_walks.ensures

pub returns : goal.returns
returns c =
    let count = c.len-graph-end.ensures ∙ ap (λ (m : ModelParts). length m.graphs) c.model.view_is in
    let all : length c.args.tries.now ≤ c.loop-graph.graph = omega (arith, count, c.loop-graph-test.false, c.requires.trees.order.count_is) in
    let walks = below_all c.args.task.now c.args.tries.now c.loop-graph.graph c.loop-graph.walks all c.loop-graph.invariant in
    record {
      walks = walks;
      fit = walks_stand c.args.task.now c.args.tries.now c.loop-graph.walks c.requires.task (subst ModelFits c.model.view_is c.model.invariant.fits) c.requires.trees walks;
    }
