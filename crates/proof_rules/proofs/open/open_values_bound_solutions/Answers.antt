use Rattle.proof_rules.proofs.OpenTreeLemmas.{open_value}
use Rattle.proof_rules.proofs.open.open_values_bound_solutions.Goals as goal

pub returns : goal.returns
returns c = open_value
