use Rattle.label_rules.proofs.TestLemmas.{label_test, dominance_test, extension_test}
use Rattle.label_rules.proofs.spaces.tests_are_exact.Goals as goal

pub returns-clause-labels : goal.returns-clause-labels
returns-clause-labels c = label_test

pub returns-clause-dominance : goal.returns-clause-dominance
returns-clause-dominance c = dominance_test

pub returns-clause-extensions : goal.returns-clause-extensions
returns-clause-extensions c = extension_test
