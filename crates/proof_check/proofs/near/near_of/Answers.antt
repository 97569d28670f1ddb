use Rattle.proof_check.proofs.NearLemmas.{near_told}
use Rattle.proof_check.proofs.near.near_of.Goals as goal

pub returns : goal.returns
returns c = near_told c.args.model.now c.put_all.new.near c.args.lines.now c.put_all.ensures
