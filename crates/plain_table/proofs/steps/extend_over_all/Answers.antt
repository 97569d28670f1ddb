use Rattle.std.proofs.Common.{◌≡◌, length, sym, ap, ◌∙◌, subst, arith}
use Rattle.label_core.specs.declared.table.Turn.TheVariants.{Done}
use Rattle.label_core.specs.Tables.{Cells, StandsAt}
use Rattle.label_core.specs.Puts.{set_at, with_turn}
use Rattle.plain_table.specs.Fillings.{Fills}
use Rattle.plain_table.proofs.Stepping.{finishes}
use Rattle.plain_table.proofs.Choosing.{written_whole}
use Rattle.plain_table.proofs.steps.extend_over_all.Goals as goal

pub finish-requires : goal.finish-requires
finish-requires g c =
    let here = c.loop-arc.invariant.extending.here in
    (here.0, subst (λ (t : Cells g.row.S-Label.Denot). StandsAt t c.args.parent here.0) (sym c.as_mut_slice.ensures.value) here.1)

pub returns-clause-went : goal.returns-clause-went
returns-clause-went g c = λ _.
    let r = g.S.Space.rules c.args.space.now in
    let f = c.loop-arc.filling in
    let now = c.loop-arc.invariant.extending in
    let here = now.here in
    let s = subst (λ (t : Cells g.row.S-Label.Denot). StandsAt t c.args.parent here.0) (sym c.as_mut_slice.ensures.value) here.1 in
    let long = ap length c.as_mut_slice.ensures.value in
    let kept = c.finish.auto.cells in
    let len = c.as_mut_slice.ensures.len in
    let whole = written_whole c.finish.new.cells f.cells.items f.cells.len (omega arith) (omega arith) in
    let is = whole ∙ c.finish.ensures here.0 s
    ∙ ap (λ t. set_at t c.args.parent (with_turn (Done c.from_vec.result) here.0)) c.as_mut_slice.ensures.value
    ∙ ap (λ fates. set_at f.cells.items c.args.parent (with_turn (Done fates) here.0)) c.from_vec.ensures in
    let all : length c.loop-arc.fates.items ≡ r.degree c.args.label
    = let n = c.loop-arc.invariant.noted in let d = c.degree-choices.ensures in let h = c.loop-arc-test.false in let b = c.loop-arc.auto.arc-end in omega arith in
    subst (λ (t : Cells g.row.S-Label.Denot). Fills r c.args.limit t f.order.items f.next) (sym is)
    (finishes r c.args.limit f.cells.items f.order.items f.next c.args.parent c.args.label c.loop-arc.fates.items now here.0 here.1 all)
