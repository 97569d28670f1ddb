use Rattle.std.proofs.Common.{IfOk, Some, ◌≡◌, ◌<◌, ◌+◌, sym, subst, arith}
use Rattle.std.proofs.lemmas.Option.{slice_get_within}
use Rattle.label_core.specs.declared.machine.PassState.{PassState}
use Rattle.label_core.specs.Plays.{Decides}
use Rattle.label_core.specs.Steps.{Steps, PutsEntry, PutsMarks}
use Rattle.label_core.proofs.MachineLists.{two_of_sum}
use Rattle.label_core.proofs.RunRows.{tickets_few}
use Rattle.label_core.proofs.playing.step.Goals as goal

pub take-requires-clause-known : goal.take-requires-clause-known
take-requires-clause-known g c = λ s lives. (c.requires.shape.each c.in-Take.p s lives.0).knows_each lives.1

pub give_back-requires : goal.give_back-requires
give_back-requires g c = record {
  holds = λ s d lives held. slice_get_within c.args.core.holders d (Some c.in-Back.p) ((c.requires.shape.each c.in-Back.p s lives.0).holds d held);
}

pub draw_ticket-requires : goal.draw_ticket-requires
draw_ticket-requires g c =
    let n = tickets_few (g.S.Space.rules c.args.space.now) c.args.core c.requires in
    let a = c.limit_of-limit.ensures in
    let b = c.weight_of-weight.ensures in
    let d = c.limit_of-limit.type_inv in
    let e = c.weight_of-weight.type_inv in
    omega arith

pub join-requires : goal.join-requires
join-requires g c = record {
  weights = λ s u apart one two.
      let h = two_of_sum (λ (z : PassState). z.weight) c.args.core.passes c.in-Join.p c.in-Join.q s u apart one.0 two.0 in
      let k = c.requires.weights in
      let b = c.weight_of-weight.ensures in
      let e = c.weight_of-weight.type_inv in
      omega arith;
}

pub returns-in-Draw : goal.returns-in-Draw
returns-in-Draw g c = subst (λ e. IfOk c.draw.result (Decides (Steps (g.S.Space.rules c.args.space.now) c.args.core e))) (sym c.in-Draw.is) c.draw.ensures

pub returns-in-Take : goal.returns-in-Take
returns-in-Take g c = subst (λ e. Decides (Steps (g.S.Space.rules c.args.space.now) c.args.core e) c.take.result) (sym c.in-Take.is) c.take.ensures

pub returns-in-Meet : goal.returns-in-Meet
returns-in-Meet g c = subst (λ e. IfOk c.meet.result (Decides (Steps (g.S.Space.rules c.args.space.now) c.args.core e))) (sym c.in-Meet.is) c.meet.ensures

pub returns-in-Back : goal.returns-in-Back
returns-in-Back g c = subst (λ e. Decides (Steps (g.S.Space.rules c.args.space.now) c.args.core e) c.give_back.result) (sym c.in-Back.is) c.give_back.ensures

pub returns-in-Ticket : goal.returns-in-Ticket
returns-in-Ticket g c = subst (λ e. Decides (Steps (g.S.Space.rules c.args.space.now) c.args.core e) c.draw_ticket.result) (sym c.in-Ticket.is) c.draw_ticket.ensures

pub returns-in-Split : goal.returns-in-Split
returns-in-Split g c = subst (λ e. IfOk c.split.result (Decides (Steps (g.S.Space.rules c.args.space.now) c.args.core e))) (sym c.in-Split.is) c.split.ensures

pub returns-in-Join : goal.returns-in-Join
returns-in-Join g c = subst (λ e. IfOk c.join.result (Decides (Steps (g.S.Space.rules c.args.space.now) c.args.core e))) (sym c.in-Join.is) c.join.ensures

pub returns-in-PutEntry : goal.returns-in-PutEntry
returns-in-PutEntry g c =
    let r = g.S.Space.rules c.args.space.now in
    let put = subst (λ fates. IfOk c.put_entry.result (Decides (PutsEntry r c.args.core c.in-PutEntry.p c.in-PutEntry.at fates c.in-PutEntry.label))) c.as_slice.ensures c.put_entry.ensures in
    subst (λ e. IfOk c.put_entry.result (Decides (Steps r c.args.core e))) (sym c.in-PutEntry.is) put

pub returns-in-PutMarks : goal.returns-in-PutMarks
returns-in-PutMarks g c =
    let r = g.S.Space.rules c.args.space.now in
    let put = subst (λ marks. IfOk c.put_marks.result (Decides (PutsMarks r c.args.core c.in-PutMarks.p marks))) c.as_slice-in-PutMarks.ensures c.put_marks.ensures in
    subst (λ e. IfOk c.put_marks.result (Decides (Steps r c.args.core e))) (sym c.in-PutMarks.is) put
