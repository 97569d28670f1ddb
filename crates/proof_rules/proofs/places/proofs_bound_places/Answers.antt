use Rattle.proof_rules.proofs.ProofLemmas.{bound_law, leasts_law, limit_law}
use Rattle.proof_rules.proofs.places.proofs_bound_places.Goals as goal

pub returns-clause-leasts : goal.returns-clause-leasts
returns-clause-leasts c = leasts_law

pub returns-clause-bound : goal.returns-clause-bound
returns-clause-bound c = bound_law

pub returns-clause-limit : goal.returns-clause-limit
returns-clause-limit c = limit_law
