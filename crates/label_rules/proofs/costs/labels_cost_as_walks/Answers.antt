use Rattle.label_rules.proofs.LabelCostLemmas.{label_cost_law, unit_cost_law}
use Rattle.label_rules.proofs.costs.labels_cost_as_walks.Goals as goal

pub returns-clause-parts : goal.returns-clause-parts
returns-clause-parts c = label_cost_law

pub returns-clause-units : goal.returns-clause-units
returns-clause-units c = unit_cost_law
