use Rattle.label_rules.proofs.TableLemmas.{forward_law, backward_law}
use Rattle.label_rules.proofs.tables.covers_have_labels.Goals as goal

pub returns-clause-forward : goal.returns-clause-forward
returns-clause-forward c = forward_law

pub returns-clause-backward : goal.returns-clause-backward
returns-clause-backward c = backward_law
