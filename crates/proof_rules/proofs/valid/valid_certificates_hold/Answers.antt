use Rattle.proof_rules.proofs.ValidLemmas.{valid_law}
use Rattle.proof_rules.proofs.valid.valid_certificates_hold.Goals as goal

pub returns : goal.returns
returns c = valid_law
