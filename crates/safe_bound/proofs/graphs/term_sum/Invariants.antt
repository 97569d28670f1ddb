use Rattle.safe_bound.proofs.BoundSteps.{IsTermsSoFar}
use Rattle.safe_bound.proofs.graphs.term_sum.Given as goal

abbrev pub invariant-loop-g : goal.invariant-loop-g
invariant-loop-g l = IsTermsSoFar l.spans l.leasts l.but l.g l.total
