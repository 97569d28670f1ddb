use Rattle.std.proofs.Common.{Some}
use Rattle.std.proofs.lemmas.Option.{slice_get_within}
use Rattle.label_core.specs.Steps.{MarksAll}
use Rattle.label_core.proofs.Deciding.{decides_none, decides_some}
use Rattle.label_core.proofs.RunRule.{marks_keep_rule}
use Rattle.label_core.proofs.MarkRows.{puts_held, marks_refused, marks_end}
use Rattle.label_core.proofs.mark_events.put_marks.Goals as goal

pub returns-in_default : goal.returns-in_default
returns-in_default g c = λ y h.
    let held = puts_held (g.S.Space.rules c.args.space.now) c.args.marks.now c.args.core c.args.p h.0 h.1 y h.2 h.3 in
    c.in_default.ensures held.0 h.0 held.1

pub returns-in_default-2 : goal.returns-in_default-2
returns-in_default-2 g c =
    let r = g.S.Space.rules c.args.space.now in
    marks_refused r (g.met.S.Space.lawful c.args.space.now) c.args.marks.now c.args.core c.args.p c.in-Some.cell c.in-Some.ensures.0 c.in-Some.ensures.1
    (decides_none (λ z. MarksAll r c.args.core c.args.p c.in-Some.cell c.args.marks.now z) c.in_ok-made.field-0 c.in_ok-made.ensures c.in_default-2.is)

pub give_back-requires : goal.give_back-requires
give_back-requires g c =
    let r = g.S.Space.rules c.args.space.now in
    let all = decides_some (λ z. MarksAll r c.args.core c.args.p c.in-Some.cell c.args.marks.now z) c.in_ok-made.field-0 c.in-Some-2.made c.in_ok-made.ensures c.in-Some-2.is in
    let rule = marks_keep_rule r (g.met.S.Space.lawful c.args.space.now) c.args.marks.now c.args.core c.args.p c.in-Some.cell c.in-Some-2.made c.requires all in
    record {
      holds = λ s d lives held. slice_get_within c.in-Some-2.made.holders d (Some c.args.p) ((rule.shape.each c.args.p s lives.0).holds d held);
    }

pub returns : goal.returns
returns g c =
    let r = g.S.Space.rules c.args.space.now in
    let all = decides_some (λ z. MarksAll r c.args.core c.args.p c.in-Some.cell c.args.marks.now z) c.in_ok-made.field-0 c.in-Some-2.made c.in_ok-made.ensures c.in-Some-2.is in
    marks_end r (g.met.S.Space.lawful c.args.space.now) c.args.marks.now c.args.core c.args.p c.in-Some.cell c.in-Some.ensures.0 c.in-Some-2.made c.give_back.result
    c.requires c.in-Some.ensures.1 all c.give_back.ensures
