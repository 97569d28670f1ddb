use Rattle.label_rules.proofs.LeastLemmas.{arc_join_law}
use Rattle.label_rules.proofs.leasts.arcs_have_joins.Goals as goal

pub returns : goal.returns
returns c = arc_join_law
