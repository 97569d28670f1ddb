use Rattle.std.proofs.Common.{to_z, of_z}
use Rattle.std.specs.Int.{w128}
use Rattle.cert_check.specs.Costs.{step_cost}
use Rattle.cert_check.proofs.TermLemmas.{along_more}
use Rattle.cert_check.proofs.counts.cost_along.Goals as goal

pub loop-arc-preserved : goal.loop-arc-preserved
loop-arc-preserved c =
    let both = along_more (step_cost c.args.graph.now c.args.arcs.now c.args.visits.now) c.args.walk.now c.loop-arc.arc-index 0 (to_z w128 (of_z w128 c.args.start)) (to_z w128 c.loop-arc.total-bits) c.step_cost.result c.plus-total.result
    c.loop-arc-test.true c.requires.few c.loop-arc.invariant.cost c.loop-arc.invariant.small c.step_cost.ensures.cost c.step_cost.ensures.small c.plus-total.ensures in
    record { cost = both.0; small = both.1 }
