use Rattle.place_nodes.proofs.ProofLemmas.{place_proof}
use Rattle.place_nodes.proofs.proof.known_of.Goals as goal

pub returns : goal.returns
returns c = place_proof c.args.task.now c.args.basis c.args.tables c.requires.task c.requires.basis c.requires.tables c.requires.told
