use Rattle.std.proofs.Common.{IfOk, sym, subst}
use Rattle.label_core.specs.Plays.{Decides}
use Rattle.label_core.specs.Tables.{place}
use Rattle.label_core.specs.Steps.{Marks, Finishes}
use Rattle.label_core.proofs.mark_events.make_mark.Goals as goal

pub returns-in-Claim : goal.returns-in-Claim
returns-in-Claim g c = subst (λ m. IfOk c.claim_entry.result (Decides (Marks (g.S.Space.rules c.args.space.now) c.args.core c.args.p c.args.c m))) (sym c.in-Claim.is) c.claim_entry.ensures

pub returns-in-Done : goal.returns-in-Done
returns-in-Done g c =
    let r = g.S.Space.rules c.args.space.now in
    let done = subst (λ fates. IfOk c.finish_entry.result (Decides (Finishes r c.args.core c.args.p (place c.args.c c.in-Done.index) fates))) c.as_slice.ensures c.finish_entry.ensures in
    subst (λ m. IfOk c.finish_entry.result (Decides (Marks r c.args.core c.args.p c.args.c m))) (sym c.in-Done.is) done

pub returns-in-Gone : goal.returns-in-Gone
returns-in-Gone g c = subst (λ m. Decides (Marks (g.S.Space.rules c.args.space.now) c.args.core c.args.p c.args.c m) c.erase_entry.result) (sym c.in-Gone.is) c.erase_entry.ensures
