use Rattle.open_tree.specs.Laws.{rules_of}
use Rattle.open_tree.proofs.TreeLaws.{reach_law}
use Rattle.open_tree.proofs.laws.open_places_have_the_rest.Goals as goal

pub returns : goal.returns
returns g c = reach_law (rules_of g.R.TreeRules.Fits g.R.TreeRules.children) g.S.Sought.Has
