use Rattle.std.proofs.lemmas.Bool.{both_ways}
use Rattle.std.proofs.lemmas.Option.{slice_get_within}
use Rattle.label_core.specs.Tables.{entries_of}
use Rattle.label_core.specs.Puts.{gone_by}
use Rattle.label_core.proofs.Marked.{erased_is}
use Rattle.label_core.proofs.mark_events.erase_entry.Goals as goal

pub returns-then-not-may_erase : goal.returns-then-not-may_erase
returns-then-not-may_erase g c = λ y h. both_ways c.may_erase.result c.if-not-may_erase.true (c.may_erase.ensures.1 (h.0, h.1, h.2, h.3, h.4))

pub set_gone-requires : goal.set_gone-requires
set_gone-requires g c =
    let h = c.may_erase.ensures.0 c.if-not-may_erase.false in
    slice_get_within (entries_of c.args.core.table.cells c.args.q.cell) c.args.q.index h.2 h.4.stands

pub returns : goal.returns
returns g c =
    let h = c.may_erase.ensures.0 c.if-not-may_erase.false in
    (h.0, h.1, h.2, h.3, h.4, erased_is c.args.core c.args.p h.0 c.args.q (gone_by c.args.by h.2) c.set_gone.new.cells (c.set_gone.ensures h.2 h.4.stands) h.1.0)
