use Rattle.open_tree.specs.Laws.{rules_of}
use Rattle.open_tree.proofs.TreeLaws.{whole_law}
use Rattle.open_tree.proofs.laws.closed_trees_are_whole.Goals as goal

pub returns : goal.returns
returns g c = whole_law (rules_of g.R.TreeRules.Fits g.R.TreeRules.children)
