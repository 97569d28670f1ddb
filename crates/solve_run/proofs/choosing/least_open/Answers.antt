use Rattle.std.proofs.Common.{rules, w64}
use Rattle.std.proofs.lemmas.Int.{to_z-of_z}
use Rattle.solve_run.proofs.ChosenLemmas.{least_stays, least_turn}
use Rattle.solve_run.proofs.choosing.least_open.Goals as goal
use Rattle.solve_run.proofs.choosing.least_open.Goals.{in-Open, in_default}

pub loop-at-preserved : goal.loop-at-preserved
loop-at-preserved c =
    elim c.match-slot.branch [
      | in-Open w ↦
          least_turn c.args.slots.now c.loop-at.at c.index-slots-at.result w.in-Open.place c.loop-at.least c.match-slot.least w.first_less.result _
          c.loop-at-test.true c.index-slots-at.is w.in-Open.is (to_z-of_z w64 w.in-Open.place.value (search rules)) c.loop-at.invariant w.first_less.ensures w.least-is
      | in_default w ↦
          least_stays c.args.slots.now c.loop-at.at c.index-slots-at.result w.in_default.field-0 c.loop-at.least c.match-slot.least
          c.loop-at-test.true c.index-slots-at.is w.in_default.is c.loop-at.invariant w.least-is
    ]
