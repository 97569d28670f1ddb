use Rattle.label_rules.proofs.DominanceLemmas.{dominators_join, walk_met}
use Rattle.label_rules.proofs.dominance.dominators_join.Goals as goal

pub returns-clause-joins : goal.returns-clause-joins
returns-clause-joins c = dominators_join

pub returns-clause-walks : goal.returns-clause-walks
returns-clause-walks c = walk_met
