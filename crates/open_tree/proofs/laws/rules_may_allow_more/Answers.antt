use Rattle.open_tree.specs.Laws.{rules_of}
use Rattle.open_tree.proofs.TreeLaws.{weaken_law}
use Rattle.open_tree.proofs.laws.rules_may_allow_more.Goals as goal

pub returns : goal.returns
returns g c = weaken_law (rules_of g.R.TreeRules.Fits g.R.TreeRules.children) (rules_of g.S.TreeRules.Fits g.S.TreeRules.children)
