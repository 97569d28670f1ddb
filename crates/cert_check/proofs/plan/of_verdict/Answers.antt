use Rattle.cert_check.proofs.PlanLemmas.{none_fine}
use Rattle.cert_check.proofs.plan.of_verdict.Goals as goal

pub returns-in_default : goal.returns-in_default
returns-in_default c m plan = none_fine c.args.verdict m plan c.in_default.not-Fine
