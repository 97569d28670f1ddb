use Rattle.label_rules.proofs.OrderLemmas.{reflexive, transitive}
use Rattle.label_rules.proofs.dominance.dominance_is_an_order.Goals as goal

pub returns-clause-reflexive : goal.returns-clause-reflexive
returns-clause-reflexive c = reflexive

pub returns-clause-transitive : goal.returns-clause-transitive
returns-clause-transitive c = transitive
