use Rattle.std.proofs.Common.{◌≡◌, ◌<◌, List, Some, length, set, sym, ap, ◌∙◌, subst}
use Rattle.std.specs.Prelude.{slice_get}
use Rattle.label_core.specs.declared.table.Entry.{Entry}
use Rattle.label_core.specs.declared.table.Turn.TheVariants.{Done}
use Rattle.label_core.specs.Puts.{with_turn}
use Rattle.plain_table.proofs.Choosing.{index_within, stands_read, cell_read}
use Rattle.plain_table.proofs.steps.finish.Goals as goal

pub end_turn-requires : goal.end_turn-requires
end_turn-requires g c =
    let is = c.index-cells-place.is in
    subst (λ (es : List (Entry g.row.L.Denot)). c.args.place.index < length es) is (index_within c.args.cells.now c.args.place c.requires.0 c.requires.1 c.index-cells-place.result is)

pub returns : goal.returns
returns g c = λ e s.
    let is = c.index-cells-place.is in
    let at = subst (λ (es : List (Entry g.row.L.Denot)). slice_get es c.args.place.index ≡ Some e) is (stands_read c.args.cells.now c.args.place e s c.index-cells-place.result is) in
    ap (λ es. set c.args.cells.now c.args.place.cell es)
    (c.end_turn.ensures e at
    ∙ ap (λ es. set es c.args.place.index (with_turn (Done c.args.fates) e)) (sym is ∙ cell_read c.args.cells.now c.args.place e s c.index-cells-place.result is))
