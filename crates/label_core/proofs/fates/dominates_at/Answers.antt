use Rattle.label_core.proofs.Deciding.{stands_once}
use Rattle.label_core.proofs.fates.dominates_at.Goals as goal

pub dominates-requires-clause-first : goal.dominates-requires-clause-first
dominates-requires-clause-first g c = c.requires.entries c.args.q c.entry_at-entry.result.now c.entry_at-entry.ensures

pub returns : goal.returns
returns g c = stands_once (g.S.Space.rules c.args.space.now) c.args.cells.now c.args.q c.entry_at-entry.result.now c.args.label.now c.dominates.result c.entry_at-entry.ensures c.dominates.ensures
