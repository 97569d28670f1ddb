use Rattle.std.proofs.Common.{All, take}
use Rattle.proof_rules.specs.Nodes.{IsFixed}
use Rattle.proof_check.specs.Checked.{proof_in}
use Rattle.cert_check.proofs.proof.are_fixed.Given as goal

abbrev pub invariant-loop-arc : goal.invariant-loop-arc
invariant-loop-arc l = All (IsFixed l.at.model.now l.z l.at.spot.now (proof_in l.at)) (take l.arc-index l.arcs)
