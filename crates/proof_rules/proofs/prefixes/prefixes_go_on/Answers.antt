use Rattle.proof_rules.proofs.GrowthLemmas.{demanded_step, elementary_step}
use Rattle.proof_rules.proofs.prefixes.prefixes_go_on.Goals as goal

pub returns-clause-step : goal.returns-clause-step
returns-clause-step c = elementary_step

pub returns-clause-demanded : goal.returns-clause-demanded
returns-clause-demanded c = demanded_step
