use Rattle.std.proofs.Common.{below_more, refl}
use Rattle.cert_check.proofs.point.vars_within.Goals as goal

pub loop-j-preserved : goal.loop-j-preserved
loop-j-preserved c = below_more _ _ c.loop-j.invariant (c.if-not-var_within.ensures.0 refl)
