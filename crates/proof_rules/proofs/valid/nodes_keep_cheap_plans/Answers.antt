use Rattle.proof_rules.proofs.ValidLemmas.{node_law, sound_law}
use Rattle.proof_rules.proofs.valid.nodes_keep_cheap_plans.Goals as goal

pub returns-clause-descends : goal.returns-clause-descends
returns-clause-descends c = node_law

pub returns-clause-sound : goal.returns-clause-sound
returns-clause-sound c = sound_law
