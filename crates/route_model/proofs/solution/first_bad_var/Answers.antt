use Rattle.std.proofs.Common.{below_more, refl}
use Rattle.route_model.proofs.solution.first_bad_var.Goals as goal

pub loop-var-preserved : goal.loop-var-preserved
loop-var-preserved c = below_more _ _ c.loop-var.invariant (c.if-not-is_in_box.ensures.0 refl)
