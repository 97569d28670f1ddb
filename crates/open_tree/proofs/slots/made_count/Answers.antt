use Rattle.std.proofs.Common.{arith}
use Rattle.open_tree.proofs.SlotLemmas.{made_count_at, made_one, made_none}
use Rattle.open_tree.proofs.slots.made_count.Goals as goal
use Rattle.open_tree.proofs.slots.made_count.Goals.{in-Made, in_default}

pub loop-slot-preserved : goal.loop-slot-preserved
loop-slot-preserved g c =
    let x = c.slot-item.result in
    let more = made_count_at c.args.slots.now c.loop-slot.slot-index x c.loop-slot-test.true c.slot-item.is in
    elim c.match-slot.branch [
      | in-Made w ↦
          let one = made_one x w.in-Made.field-0 w.in-Made.is in
          record { same = omega (arith, more, one, c.loop-slot.invariant.same, w.count-is); few = omega (arith, c.loop-slot.invariant.few, w.count-is) }
      | in_default w ↦
          let none = made_none x w.in_default.field-0 w.in_default.is in
          record { same = omega (arith, more, none, c.loop-slot.invariant.same, w.count-is); few = omega (arith, c.loop-slot.invariant.few, w.count-is) }
    ]
