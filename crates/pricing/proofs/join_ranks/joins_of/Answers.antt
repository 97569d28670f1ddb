use Rattle.route_labels.specs.Meaning.{setting_of}
use Rattle.pricing.proofs.JoinedLemmas.{may_cells_join}
use Rattle.pricing.proofs.join_ranks.joins_of.Goals as goal

pub joins_between-requires-clause-fore : goal.joins_between-requires-clause-fore
joins_between-requires-clause-fore c = may_cells_join (setting_of c.args.field.now) c.args.pair.now.fore.cells (c.requires.pair.1).fore_joins

pub joins_between-requires-clause-back : goal.joins_between-requires-clause-back
joins_between-requires-clause-back c = may_cells_join (setting_of c.args.field.now) c.args.pair.now.back.cells (c.requires.pair.1).back_joins
