use Rattle.label_rules.proofs.LevelLemmas.{level_law, cost_change}
use Rattle.label_rules.proofs.spaces.levels_rise.Goals as goal

pub returns-clause-level : goal.returns-clause-level
returns-clause-level c = level_law

pub returns-clause-cost : goal.returns-clause-cost
returns-clause-cost c = cost_change
