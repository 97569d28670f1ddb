use Rattle.proof_rules.proofs.OpenTreeLemmas.{wall_bound, wall_tree}
use Rattle.proof_rules.proofs.open.walls_bound_solutions.Goals as goal

pub returns-clause-tree : goal.returns-clause-tree
returns-clause-tree c = wall_tree

pub returns-clause-bound : goal.returns-clause-bound
returns-clause-bound c = wall_bound
