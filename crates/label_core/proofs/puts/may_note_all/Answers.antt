use Rattle.std.proofs.Common.{◌≡◌, ◌+◌, Some, refl, subst, below_more, arith}
use Rattle.std.specs.Prelude.{slice_get}
use Rattle.std.proofs.lemmas.Option.{slice_get_within, get_or_from_slice_get}
use Rattle.label_core.specs.declared.table.Fate.{Fate}
use Rattle.label_core.specs.Steps.{MayNote}
use Rattle.label_core.proofs.puts.may_note_all.Goals as goal

pub loop-i-preserved : goal.loop-i-preserved
loop-i-preserved g c =
    let r = g.S.Space.rules c.args.space.now in
    below_more (λ j. (f : Fate) → slice_get c.args.fates.now j ≡ Some f → MayNote r c.args.cells.now c.args.pass.now c.args.label.now (c.args.n + j) f) _ c.loop-i.invariant
    (λ f at. subst (λ z. MayNote r c.args.cells.now c.args.pass.now c.args.label.now (c.args.n + c.loop-i.i) z)
    (get_or_from_slice_get c.args.fates.now c.loop-i.i f _ at)
    (c.may_note.ensures.0 c.if-not-may_note.false))

pub returns : goal.returns
returns g c = (λ _ j f at. c.loop-i.invariant j (let h = slice_get_within c.args.fates.now j f at in let k = c.loop-i-test.false in omega arith) f at, λ _. refl)
