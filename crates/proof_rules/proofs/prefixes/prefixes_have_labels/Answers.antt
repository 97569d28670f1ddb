use Rattle.proof_rules.proofs.CompleteLemmas.{prefix_label}
use Rattle.proof_rules.proofs.prefixes.prefixes_have_labels.Goals as goal

pub returns : goal.returns
returns c = prefix_label
