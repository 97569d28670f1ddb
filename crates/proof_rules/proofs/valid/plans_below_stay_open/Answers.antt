use Rattle.proof_rules.proofs.ValidLemmas.{open_law, tree_law}
use Rattle.proof_rules.proofs.valid.plans_below_stay_open.Goals as goal

pub returns-clause-open_items : goal.returns-clause-open_items
returns-clause-open_items c = open_law

pub returns-clause-none : goal.returns-clause-none
returns-clause-none c = tree_law
