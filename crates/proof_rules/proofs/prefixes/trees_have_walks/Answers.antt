use Rattle.proof_rules.proofs.WalkListLemmas.{walks_differ, walks_listed}
use Rattle.proof_rules.proofs.prefixes.trees_have_walks.Goals as goal

pub returns-clause-listed : goal.returns-clause-listed
returns-clause-listed c = walks_listed

pub returns-clause-apart : goal.returns-clause-apart
returns-clause-apart c = walks_differ
