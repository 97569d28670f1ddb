use Rattle.label_rules.proofs.LeastLemmas.{least_law}
use Rattle.label_rules.proofs.leasts.leasts_are_at_most.Goals as goal

pub returns : goal.returns
returns c = least_law
