use Rattle.route_labels.proofs.KeptLemmas.{closed_table}
use Rattle.route_labels.proofs.filled.closed_tables_are_closed_lists.Goals as goal

pub returns : goal.returns
returns c = closed_table
