use Rattle.proof_rules.proofs.ChoiceLemmas.{table_walks}
use Rattle.proof_rules.proofs.TableCountLemmas.{table_wall}
use Rattle.proof_rules.proofs.open.table_walls_show_walks.Goals as goal

pub returns-clause-choices : goal.returns-clause-choices
returns-clause-choices c = table_wall

pub returns-clause-walks : goal.returns-clause-walks
returns-clause-walks c = table_walks
