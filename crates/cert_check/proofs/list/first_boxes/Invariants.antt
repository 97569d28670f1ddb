use Rattle.std.proofs.Common.{◌≡◌, take}
use Rattle.proof_rules.specs.Nodes.{first_boxes}
use Rattle.cert_check.specs.Frames.{walks_said}
use Rattle.cert_check.proofs.list.first_boxes.Given as goal

abbrev pub invariant-loop-walk : goal.invariant-loop-walk
invariant-loop-walk l = l.boxes ≡ first_boxes l.spot (walks_said (take l.walk-index l.walks))
