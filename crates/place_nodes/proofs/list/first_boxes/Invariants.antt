use Rattle.std.proofs.Common.{◌≡◌, take}
use Rattle.proof_rules.specs.Nodes.{first_boxes as boxes_of}
use Rattle.walk_list.specs.Walks.{walks_said}
use Rattle.place_nodes.proofs.list.first_boxes.Given as goal

abbrev pub invariant-loop-walk : goal.invariant-loop-walk
invariant-loop-walk l = l.boxes ≡ boxes_of l.spot (walks_said (take l.walk-index l.walks))
