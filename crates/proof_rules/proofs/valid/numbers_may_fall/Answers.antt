use Rattle.proof_rules.proofs.FallLemmas.{falls_law, tree_falls_law}
use Rattle.proof_rules.proofs.valid.numbers_may_fall.Goals as goal

pub returns-clause-node : goal.returns-clause-node
returns-clause-node c = falls_law

pub returns-clause-tree : goal.returns-clause-tree
returns-clause-tree c = tree_falls_law
