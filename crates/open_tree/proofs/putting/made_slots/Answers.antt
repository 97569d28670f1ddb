use Rattle.open_tree.proofs.OpenLaws.{slots_push}
use Rattle.open_tree.proofs.putting.made_slots.Goals as goal

pub loop-node-preserved : goal.loop-node-preserved
loop-node-preserved g c =
    let more = slots_push {I = g.row.I.Denot} c.loop-node.yielded c.in-Some.node in
    let items = c.in_ok-push.ensures.items in
    let at = c.loop-node.invariant in
    cc
