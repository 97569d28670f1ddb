use Rattle.std.proofs.Common.{◌≡◌, Some, [], length, set, get_or, sym, ap, ◌∙◌, subst}
use Rattle.std.specs.Prelude.{slice_get}
use Rattle.label_core.specs.Puts.{put}
use Rattle.label_core.specs.declared.machine.PassState.{PassState}
use Rattle.label_core.proofs.MachineLists.{read_here}
use Rattle.label_core.proofs.Refusing.{put_is}
use Rattle.label_core.proofs.puts.put_at.Goals as goal

pub returns : goal.returns
returns g c = λ s k at has.
    let r = g.S.Space.rules c.args.space.now in
    let x = c.args.core in
    let ps = c.into_vec-passes.ensures in
    let was = c.index_mut.result.now in
    let was_is = read_here x.passes c.args.p s was at (c.index_mut.ensures.value ∙ ap (λ l. get_or l c.args.p was) ps) in
    let sp = c.in_ok-origin.ensures k (subst (λ (z : PassState). slice_get z.claims c.args.spot.claim ≡ Some k) (sym was_is) has) in
    put_is r x c.args.p c.args.spot.cell s c.args.spot.claim k c.args.fates.now c.args.label c.from_vec-2.result c.from_vec.result c.len-size.result c.in_ok-origin.origin c.spend.new.pass was
    (c.len-size.ensures ∙ ap (λ l. length l) (sym (c.at.ensures [])))
    (c.from_vec-2.ensures ∙ c.in_ok-put_in_cell.ensures ∙ ap (λ t. put r t c.args.spot.cell c.child.result) c.into_vec-cells.ensures ∙ ap (λ e. put r x.table.cells c.args.spot.cell e) c.child.ensures)
    sp.0
    (c.from_vec.ensures ∙ ap (λ l. set l c.args.p c.spend.new.pass) ps)
    sp.1
    was_is
