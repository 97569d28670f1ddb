use Rattle.proof_rules.proofs.CompleteLemmas.{complete_falls, listed}
use Rattle.proof_rules.proofs.prefixes.complete_trees_list_walks.Goals as goal

pub returns-clause-listed : goal.returns-clause-listed
returns-clause-listed c = listed

pub returns-clause-falls : goal.returns-clause-falls
returns-clause-falls c = complete_falls
