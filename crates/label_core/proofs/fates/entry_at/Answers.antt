use Rattle.std.proofs.Common.{sym}
use Rattle.label_core.proofs.Deciding.{read_entry}
use Rattle.label_core.proofs.fates.entry_at.Goals as goal

pub returns : goal.returns
returns g c = read_entry c.args.cells.now c.args.q.cell c.args.q.index c.index-cells-q.result c.at.result.now c.requires c.index-cells-q.is (sym (c.at.ensures c.at.result.now))
