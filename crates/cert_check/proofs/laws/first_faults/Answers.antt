use Rattle.cert_check.proofs.FirstLemmas.{fault_refuses, one_fault}
use Rattle.cert_check.proofs.laws.first_faults.Goals as goal

pub returns-clause-one : goal.returns-clause-one
returns-clause-one c = one_fault

pub returns-clause-refuses : goal.returns-clause-refuses
returns-clause-refuses c = fault_refuses
