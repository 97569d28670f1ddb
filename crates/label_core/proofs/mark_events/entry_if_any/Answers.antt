use Rattle.std.proofs.Common.{◌≡◌, length, sym, ap, ◌∙◌, arith}
use Rattle.std.proofs.lemmas.Option.{slice_get_within}
use Rattle.label_core.specs.Tables.{entries_of}
use Rattle.label_core.proofs.Lookup.{cell_there}
use Rattle.label_core.proofs.Deciding.{read_list}
use Rattle.label_core.proofs.mark_events.entry_if_any.Goals as goal

pub returns-then-q-cells : goal.returns-then-q-cells
returns-then-q-cells g c = λ e s.
    let there = cell_there c.args.core.now.table.cells c.args.q.cell c.args.q.index e s in
    let past = c.if-q-cells.true in
    let same = ap (λ t. length t) c.as_slice-cells.ensures in
    omega arith

pub returns-then-q-len : goal.returns-then-q-len
returns-then-q-len g c = λ e s.
    let there = slice_get_within (entries_of c.args.core.now.table.cells c.args.q.cell) c.args.q.index e s in
    let past = c.if-q-len.true in
    let size = c.len.ensures in
    let read = read_list c.as_slice-cells.result.now c.args.q.cell c.index-cells-q.result c.if-q-cells.false c.index-cells-q.is in
    let same : length (entries_of c.args.core.now.table.cells c.args.q.cell) ≡ length c.index-cells-q.result =
    ap (λ t. length (entries_of t c.args.q.cell)) (sym c.as_slice-cells.ensures) ∙ ap (λ es. length es) read in
    omega arith
