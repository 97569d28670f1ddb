use Rattle.std.proofs.Common.{All}
use Rattle.proof_check.specs.Demands.{IsMet, demands}
use Rattle.proof_check.proofs.check.first_fault.Given as goal

abbrev pub invariant-loop-g : goal.invariant-loop-g
invariant-loop-g l = All (IsMet l.at.model.now l.at.spot.now l.at.proof.now l.whole) (demands l.g)
