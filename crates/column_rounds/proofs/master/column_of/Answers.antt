use Rattle.std.proofs.Common.{subst}
use Rattle.route_model.specs.Fit.{ModelFits}
use Rattle.column_rounds.proofs.MasterLemmas.{few_places}
use Rattle.column_rounds.proofs.master.column_of.Goals as goal

pub column-requires-clause-places : goal.column-requires-clause-places
column-requires-clause-places c =
    few_places c.args.model.now c.args.columns.now.pool (subst ModelFits c.model.view_is c.model.invariant.fits) c.requires.pool
