use Rattle.proof_check.proofs.DemandLemmas.{fault_law, refused_told, side_fault_told, sound_told}
use Rattle.proof_check.proofs.check.check_proof.Goals as goal

pub returns-in-Err-clause-fault : goal.returns-in-Err-clause-fault
returns-in-Err-clause-fault c = side_fault_told c.args.model.now c.args.spot.now c.args.proof.now c.args.whole c.in-Err.fault c.in-Err.ensures.side

pub returns-in-Err-clause-refused : goal.returns-in-Err-clause-refused
returns-in-Err-clause-refused c other =
    fault_law c.args.model.now c.args.spot.now c.args.proof.now c.args.whole c.in-Err.fault c.requires.keeps other (returns-in-Err-clause-fault c)

pub returns-in-Ok-clause-sound : goal.returns-in-Ok-clause-sound
returns-in-Ok-clause-sound c = sound_told c.args.model.now c.args.spot.now c.args.proof.now c.args.whole c.judged.result c.requires.keeps c.judged.ensures.met

pub returns-in-Ok-clause-refused : goal.returns-in-Ok-clause-refused
returns-in-Ok-clause-refused c = refused_told c.args.model.now c.args.spot.now c.args.proof.now c.args.whole c.judged.result c.requires.keeps c.judged.ensures.fault
