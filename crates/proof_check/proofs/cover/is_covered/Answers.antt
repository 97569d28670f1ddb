use Rattle.std.proofs.Common.{below_more, refl}
use Rattle.proof_check.proofs.cover.is_covered.Goals as goal

pub loop-k-preserved : goal.loop-k-preserved
loop-k-preserved c = below_more _ _ c.loop-k.invariant (c.if-not-is_covered_at.ensures.0 refl)
