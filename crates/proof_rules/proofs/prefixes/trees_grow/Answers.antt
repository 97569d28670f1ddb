use Rattle.proof_rules.proofs.GrowthLemmas.{empty_tree, tree_grows}
use Rattle.proof_rules.proofs.prefixes.trees_grow.Goals as goal

pub returns-clause-empty : goal.returns-clause-empty
returns-clause-empty c = empty_tree

pub returns-clause-grows : goal.returns-clause-grows
returns-clause-grows c = tree_grows
