use Rattle.open_tree.specs.Laws.{rules_of}
use Rattle.open_tree.proofs.TreeLaws.{put_law}
use Rattle.open_tree.proofs.laws.open_places_give_way.Goals as goal

pub returns : goal.returns
returns g c = put_law (rules_of g.R.TreeRules.Fits g.R.TreeRules.children)
