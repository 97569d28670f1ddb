use Rattle.std.proofs.Common.{length, refl}
use Rattle.std.proofs.lemmas.Option.{slice_get_read}
use Rattle.label_core.specs.Steps.{Marks}
use Rattle.label_core.proofs.Deciding.{decides_none, decides_some}
use Rattle.label_core.proofs.RunRule.{mark_keeps_rule}
use Rattle.label_core.proofs.MarkRows.{marks_push, marks_stop}
use Rattle.label_core.proofs.mark_events.make_marks.Goals as goal

pub returns-in_default : goal.returns-in_default
returns-in_default g c = λ y all.
    let r = g.S.Space.rules c.args.space.now in
    let law = g.met.S.Space.lawful c.args.space.now in
    let i = c.loop-i.i in
    let m = c.index-marks-i.result in
    let at = slice_get_read c.args.marks.now (length c.args.marks.now) i m refl c.loop-i-test.true c.index-marks-i.is in
    let none = decides_none (λ z. Marks r c.loop-i.made c.args.p c.args.c m z) c.in_ok-next.field-0 c.in_ok-next.ensures c.in_default.is in
    marks_stop r law c.args.marks.now i c.args.core c.args.p c.args.c m c.loop-i.made y c.requires c.loop-i.invariant.made at none all

pub loop-i-preserved : goal.loop-i-preserved
loop-i-preserved g c =
    let r = g.S.Space.rules c.args.space.now in
    let law = g.met.S.Space.lawful c.args.space.now in
    let i = c.loop-i.i in
    let m = c.index-marks-i.result in
    let at = slice_get_read c.args.marks.now (length c.args.marks.now) i m refl c.loop-i-test.true c.index-marks-i.is in
    let one = decides_some (λ z. Marks r c.loop-i.made c.args.p c.args.c m z) c.in_ok-next.field-0 c.in-Some.next c.in_ok-next.ensures c.in-Some.is in
    record {
      made = marks_push r law c.args.marks.now i c.args.core c.args.p c.args.c m c.loop-i.made c.in-Some.next c.loop-i.invariant.made at one;
      rule = mark_keeps_rule r law c.loop-i.made c.args.p c.args.c m c.in-Some.next c.loop-i.invariant.rule one;
    }
