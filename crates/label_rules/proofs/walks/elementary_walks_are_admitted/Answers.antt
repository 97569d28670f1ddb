use Rattle.label_rules.proofs.AdmittedLemmas.{elementary_law, elementary_prefix}
use Rattle.label_rules.proofs.walks.elementary_walks_are_admitted.Goals as goal

pub returns-clause-walks : goal.returns-clause-walks
returns-clause-walks c = elementary_law

pub returns-clause-prefixes : goal.returns-clause-prefixes
returns-clause-prefixes c = elementary_prefix
