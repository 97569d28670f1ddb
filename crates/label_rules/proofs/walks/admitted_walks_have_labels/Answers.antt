use Rattle.label_rules.proofs.AdmittedLemmas.{admitted_law}
use Rattle.label_rules.proofs.walks.admitted_walks_have_labels.Goals as goal

pub returns : goal.returns
returns c = admitted_law
