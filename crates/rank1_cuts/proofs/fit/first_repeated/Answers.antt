use Rattle.std.proofs.Common.{arith, below_more, false, IsTrue}
use Rattle.rank1_cuts.proofs.fit.first_repeated.Goals as goal

pub loop-place-preserved : goal.loop-place-preserved
loop-place-preserved c = below_more _ _ c.loop-place.invariant (λ repeated. absurd (let no : IsTrue false = c.if-stands_before.ensures.1 repeated in cc))

pub returns : goal.returns
returns c = λ k below. c.loop-place.invariant k (omega arith)
