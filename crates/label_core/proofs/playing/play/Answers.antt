use Rattle.std.proofs.Common.{length, refl, subst, ap, sym}
use Rattle.std.proofs.lemmas.Option.{slice_get_read}
use Rattle.std.proofs.lemmas.List.{take_all}
use Rattle.label_core.specs.Steps.{Steps}
use Rattle.label_core.specs.Runs.{Runs}
use Rattle.label_core.proofs.Deciding.{decides_some}
use Rattle.label_core.proofs.RunRule.{step_keeps}
use Rattle.label_core.proofs.RunRows.{runs_push}
use Rattle.label_core.proofs.Steady.{run_stays}
use Rattle.label_core.proofs.Closing.{finished_is_closed, finished_represents}
use Rattle.label_core.proofs.playing.play.Goals as goal

pub loop-i-preserved : goal.loop-i-preserved
loop-i-preserved g c =
    let r = g.S.Space.rules c.args.space.now in
    let i = c.loop-i.i in
    let e = c.index-events-i.result in
    let at = slice_get_read c.args.events.now (length c.args.events.now) i e refl c.loop-i-test.true c.index-events-i.is in
    let one = decides_some (λ z. Steps r c.loop-i.played e z) c.in_ok-next.field-0 c.in-Some.next c.in_ok-next.ensures c.in-Some.is in
    record {
      run = runs_push r c.args.events.now i c.args.core.now e c.loop-i.played c.in-Some.next c.loop-i.invariant.run at one;
      rule = step_keeps r (g.met.S.Space.lawful c.args.space.now) e c.loop-i.played c.in-Some.next c.loop-i.invariant.rule one;
    }

pub returns-clause-stays : goal.returns-clause-stays
returns-clause-stays g c =
    let r = g.S.Space.rules c.args.space.now in
    run_stays r (g.met.S.Space.lawful c.args.space.now) _ c.args.core.now c.loop-i.played c.requires.rule c.loop-i.invariant.run

pub returns-clause-closed : goal.returns-clause-closed
returns-clause-closed g c = λ done.
    let r = g.S.Space.rules c.args.space.now in
    let law = g.met.S.Space.lawful c.args.space.now in
    let worked = c.loop-i.invariant.rule.shape.worked in (
      finished_is_closed r law c.loop-i.played.table.cells worked.sound worked.fated done,
      finished_represents r law c.loop-i.played.table.cells worked.sound worked.fated done,
    )
