use Rattle.std.proofs.Common.{◌≡◌, ◌↔◌, IsTrue, Some, sym, ◌∙◌, subst, arith}
use Rattle.label_core.specs.declared.table.Fate.{Fate}
use Rattle.label_core.specs.Steps.{MayNote}
use Rattle.label_core.proofs.Deciding.{at_legal}
use Rattle.label_core.proofs.fates.may_note.Goals as goal

pub returns-then-knows : goal.returns-then-knows
returns-then-knows g c =
    let r = g.S.Space.rules c.args.space.now in
    let ext : r.extend c.args.label.now c.args.n ≡ Some c.in-Some.m = sym c.extend-extension.ensures ∙ c.in-Some.is in
    subst (λ (f : Fate). IsTrue c.dominates_at.result ↔ MayNote r c.args.cells.now c.args.pass.now c.args.label.now c.args.n f) (sym c.in-At.is)
    (at_legal r c.args.cells.now c.args.pass.now c.args.label.now c.in-Some.m c.args.n c.in-At.q c.dominates_at.result (omega arith) ext
    (c.knows.ensures.0 c.if-knows.true) c.dominates_at.ensures)
