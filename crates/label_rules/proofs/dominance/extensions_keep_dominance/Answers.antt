use Rattle.label_rules.proofs.OrderLemmas.{extension_law}
use Rattle.label_rules.proofs.dominance.extensions_keep_dominance.Goals as goal

pub returns : goal.returns
returns c = extension_law
