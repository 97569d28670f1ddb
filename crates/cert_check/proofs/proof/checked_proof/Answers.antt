use Rattle.cert_check.proofs.KeepLemmas.{proof_keeps}
use Rattle.cert_check.proofs.proof.checked_proof.Goals as goal

pub check_proof-requires-clause-keeps : goal.check_proof-requires-clause-keeps
check_proof-requires-clause-keeps c = proof_keeps c.args.model.now c.args.proof.now c.requires.told
