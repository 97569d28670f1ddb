use Rattle.proof_rules.proofs.ListWallLemmas.{list_wall}
use Rattle.proof_rules.proofs.open.list_walls_show_walks.Goals as goal

pub returns : goal.returns
returns c = list_wall
