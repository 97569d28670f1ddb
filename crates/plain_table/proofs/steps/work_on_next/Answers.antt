use Rattle.std.proofs.Common.{sym, subst, refl}
use Rattle.std.proofs.lemmas.Option.{slice_get_read}
use Rattle.label_core.specs.Tables.{Cells, StandsAt}
use Rattle.plain_table.proofs.Stepping.{skips, starts}
use Rattle.plain_table.proofs.steps.work_on_next.Goals as goal

pub label_to_extend-requires : goal.label_to_extend-requires
label_to_extend-requires g c =
    let f = c.args.filling.now in
    let at = slice_get_read f.order.items _ f.next c.index-parent.result.now refl c.requires.within c.index-parent.ensures in
    let e = c.requires.filling.steady.placed f.next c.index-parent.result.now at in
    (e.0, subst (λ (t : Cells g.row.S-Label.Denot). StandsAt t c.index-parent.result.now e.0) (sym c.as_slice.ensures.value) e.1)

pub returns-in_default-clause-went : goal.returns-in_default-clause-went
returns-in_default-clause-went g c = λ _.
    let f = c.args.filling.now in
    let at = slice_get_read f.order.items _ f.next c.index-parent.result.now refl c.requires.within c.index-parent.ensures in
    let e = c.requires.filling.steady.placed f.next c.index-parent.result.now at in
    let s = subst (λ (t : Cells g.row.S-Label.Denot). StandsAt t c.index-parent.result.now e.0) (sym c.as_slice.ensures.value) e.1 in
    skips (g.S.Space.rules c.args.space.now) c.args.limit f.cells.items f.order.items f.next c.index-parent.result.now e.0 c.requires.filling at e.1 (c.in_default.ensures e.0 s)

pub extend_over_all-requires : goal.extend_over_all-requires
extend_over_all-requires g c =
    let f = c.args.filling.now in
    let at = slice_get_read f.order.items _ f.next c.index-parent.result.now refl c.requires.within c.index-parent.ensures in
    let e = c.requires.filling.steady.placed f.next c.index-parent.result.now at in
    let s = subst (λ (t : Cells g.row.S-Label.Denot). StandsAt t c.index-parent.result.now e.0) (sym c.as_slice.ensures.value) e.1 in
    starts (g.S.Space.rules c.args.space.now) c.args.limit f.cells.items f.order.items f.next c.index-parent.result.now e.0 c.in-Some.label c.requires.filling at e.1 (c.in-Some.ensures e.0 s)
