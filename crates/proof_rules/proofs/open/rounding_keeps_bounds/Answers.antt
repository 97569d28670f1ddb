use Rattle.proof_rules.proofs.OpenTreeLemmas.{rounded_up_law}
use Rattle.proof_rules.proofs.open.rounding_keeps_bounds.Goals as goal

pub returns : goal.returns
returns c = rounded_up_law
