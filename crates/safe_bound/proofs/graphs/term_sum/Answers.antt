use Rattle.std.proofs.Common.{to_z}
use Rattle.std.specs.Int.{w128}
use Rattle.safe_bound.proofs.BoundSteps.{terms_fit, terms_step}
use Rattle.safe_bound.proofs.graphs.term_sum.Goals as goal

pub plus-total-requires : goal.plus-total-requires
plus-total-requires c =
    terms_fit c.args.spans.now c.args.leasts.now c.args.but c.loop-g.g (to_z w128 c.loop-g.total-bits) c.term_unless.result c.requires.paths c.loop-g-test.true c.loop-g.invariant c.term_unless.ensures.range

pub loop-g-preserved : goal.loop-g-preserved
loop-g-preserved c =
    terms_step c.args.spans.now c.args.leasts.now c.args.but c.loop-g.g (to_z w128 c.loop-g.total-bits) c.term_unless.result c.plus-total.result c.requires.paths c.loop-g-test.true c.loop-g.invariant
    c.term_unless.ensures.term c.term_unless.ensures.range c.plus-total.ensures
