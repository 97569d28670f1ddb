use Rattle.label_rules.proofs.LeastLemmas.{table_covers}
use Rattle.label_rules.proofs.leasts.tables_cover.Goals as goal

pub returns : goal.returns
returns c = table_covers
