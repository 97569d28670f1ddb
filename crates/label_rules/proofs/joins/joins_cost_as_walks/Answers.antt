use Rattle.label_rules.proofs.CostLemmas.{join_cost_law}
use Rattle.label_rules.proofs.joins.joins_cost_as_walks.Goals as goal

pub returns : goal.returns
returns c = join_cost_law
