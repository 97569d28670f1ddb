use Rattle.proof_rules.proofs.TableWallLemmas.{filled}
use Rattle.proof_rules.proofs.open.filled_tables_are_walls.Goals as goal

pub returns : goal.returns
returns c = filled
