use Rattle.open_tree.proofs.SlotLemmas.{mades_push, mades_skip}
use Rattle.open_tree.proofs.slots.made_nodes.Goals as goal
use Rattle.open_tree.proofs.slots.made_nodes.Goals.{in-Made+in_ok-push, in_default}

pub loop-slot-preserved-after-slot : goal.loop-slot-preserved-after-slot
loop-slot-preserved-after-slot g c =
    let at = c.loop-slot.invariant in
    elim c.match-slot.branch [
      | in-Made+in_ok-push w ↦
          let more = mades_push c.loop-slot.yielded c.in-Some.slot w.in-Made.node w.in-Made.is in
          let items = w.in_ok-push.ensures.items in
          cc
      | in_default w ↦
          let same = mades_skip c.loop-slot.yielded c.in-Some.slot w.in_default.field-0 w.in_default.is in
          cc
    ]

pub loop-slot-preserved : goal.loop-slot-preserved
loop-slot-preserved g c =
    let at = c.loop-slot.invariant in
    elim c.match-slot.branch [
      | in-Made+in_ok-push w ↦
          let more = mades_push c.loop-slot.yielded c.in-Some.slot w.in-Made.node w.in-Made.is in
          let items = w.in_ok-push.ensures.items in
          cc
      | in_default w ↦
          let same = mades_skip c.loop-slot.yielded c.in-Some.slot w.in_default.field-0 w.in_default.is in
          cc
    ]
