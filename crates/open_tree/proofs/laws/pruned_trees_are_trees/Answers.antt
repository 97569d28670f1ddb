use Rattle.open_tree.specs.Laws.{rules_of}
use Rattle.open_tree.proofs.TreeLaws.{prune_law}
use Rattle.open_tree.proofs.laws.pruned_trees_are_trees.Goals as goal

pub returns : goal.returns
returns g c = prune_law (rules_of g.R.TreeRules.Fits g.R.TreeRules.children)
