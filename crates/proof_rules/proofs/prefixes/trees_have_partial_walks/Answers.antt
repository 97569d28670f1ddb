use Rattle.proof_rules.proofs.WalkListLemmas.{partial_walks}
use Rattle.proof_rules.proofs.prefixes.trees_have_partial_walks.Goals as goal

pub returns : goal.returns
returns c = partial_walks
