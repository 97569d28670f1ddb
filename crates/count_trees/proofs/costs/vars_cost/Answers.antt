use Rattle.std.proofs.Common.{to_z, arith}
use Rattle.std.specs.Int.{w128}
use Rattle.count_trees.specs.Costs.{cost_at}
use Rattle.count_trees.proofs.CostLemmas.{sum_more}
use Rattle.count_trees.proofs.costs.vars_cost.Goals as goal

pub loop-var-preserved : goal.loop-var-preserved
loop-var-preserved c =
    let both = sum_more (cost_at c.args.vars.now) c.args.mapped.now c.loop-var.var-index 0 1000000000 16 (to_z w128 c.loop-var.total-bits) c.var_cost.result c.plus-total.result
    c.loop-var-test.true c.requires.few (omega arith) c.loop-var.invariant.cost c.loop-var.invariant.small c.var_cost.ensures.cost c.var_cost.ensures.small c.plus-total.ensures in
    record { cost = both.0; small = both.1 }
