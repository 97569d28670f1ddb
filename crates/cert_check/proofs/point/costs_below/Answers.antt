use Rattle.cert_check.proofs.PlanLemmas.{none_fine}
use Rattle.cert_check.proofs.point.costs_below.Goals as goal

pub returns-in_default : goal.returns-in_default
returns-in_default c m plan is = ((λ t. cc), (λ s. absurd (none_fine c.args.verdict m plan c.in_default.not-Fine is s.0)))
