use Rattle.proof_rules.proofs.ValidLemmas.{preorder_law}
use Rattle.proof_rules.proofs.valid.nodes_are_in_preorder.Goals as goal

pub returns : goal.returns
returns c = preorder_law
