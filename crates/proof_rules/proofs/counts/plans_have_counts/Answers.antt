use Rattle.proof_rules.proofs.CountLemmas.{count_most_law, counts_law}
use Rattle.proof_rules.proofs.counts.plans_have_counts.Goals as goal

pub returns-clause-same : goal.returns-clause-same
returns-clause-same c = counts_law

pub returns-clause-most : goal.returns-clause-most
returns-clause-most c = count_most_law
