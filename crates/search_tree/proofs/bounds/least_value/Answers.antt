use Rattle.std.proofs.Common.{rules, w64}
use Rattle.std.proofs.lemmas.Int.{to_z-of_z}
use Rattle.search_tree.proofs.BoundLemmas.{value_stays, value_turn}
use Rattle.search_tree.proofs.bounds.least_value.Goals as goal
use Rattle.search_tree.proofs.bounds.least_value.Goals.{in-Open, in_default}

pub loop-slot-preserved : goal.loop-slot-preserved
loop-slot-preserved c =
    elim c.match-slot.branch [
      | in-Open w ↦
          value_turn c.args.slots.now c.loop-slot.slot-index c.slot-item.result w.in-Open.place c.loop-slot.least c.match-slot.least _ w.lesser.result _
          c.loop-slot-test.true c.slot-item.is w.in-Open.is (to_z-of_z w64 w.in-Open.place.value (search rules)) c.loop-slot.invariant w.lesser.ensures
          (to_z-of_z w64 w.lesser.result (search rules)) w.least-is
      | in_default w ↦
          value_stays c.args.slots.now c.loop-slot.slot-index c.slot-item.result w.in_default.field-0 c.loop-slot.least c.match-slot.least
          c.loop-slot-test.true c.slot-item.is w.in_default.is c.loop-slot.invariant w.least-is
    ]
