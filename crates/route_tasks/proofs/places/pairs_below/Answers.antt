use Rattle.route_tasks.proofs.RangeLemmas.{before_closed}
use Rattle.route_tasks.proofs.places.pairs_below.Goals as goal

pub returns-clause-count : goal.returns-clause-count
returns-clause-count c = before_closed c.args.n c.args.low c.requires.place
