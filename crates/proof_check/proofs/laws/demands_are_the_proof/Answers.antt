use Rattle.proof_check.proofs.DemandLemmas.{demands_law, fault_law}
use Rattle.proof_check.proofs.laws.demands_are_the_proof.Goals as goal

pub returns-clause-demands : goal.returns-clause-demands
returns-clause-demands c = demands_law

pub returns-clause-faults : goal.returns-clause-faults
returns-clause-faults c = fault_law
