use Rattle.proof_rules.proofs.CountLemmas.{plan_of_law}
use Rattle.proof_rules.proofs.counts.counts_have_plans.Goals as goal

pub returns : goal.returns
returns c = plan_of_law
