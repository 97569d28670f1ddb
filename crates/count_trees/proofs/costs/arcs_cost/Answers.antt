use Rattle.std.proofs.Common.{◌^◌, to_z, arith}
use Rattle.std.specs.Int.{w128}
use Rattle.count_trees.specs.Costs.{arc_cost}
use Rattle.count_trees.proofs.CostLemmas.{sum_more}
use Rattle.count_trees.proofs.costs.arcs_cost.Goals as goal

pub loop-arc-preserved : goal.loop-arc-preserved
loop-arc-preserved c =
    let both = sum_more (arc_cost c.args.vars.now c.args.maps.now) c.args.arcs.now c.loop-arc.arc-index 0 16000000000 (2 ^ 25) (to_z w128 c.loop-arc.total-bits) c.arc_cost.result c.plus-total.result
    c.loop-arc-test.true c.requires.few_arcs (omega arith) c.loop-arc.invariant.cost c.loop-arc.invariant.small c.arc_cost.ensures.cost c.arc_cost.ensures.small c.plus-total.ensures in
    record { cost = both.0; small = both.1 }
