use Rattle.std.proofs.Common.{subst}
use Rattle.route_model.specs.Fit.{ModelFits}
use Rattle.route_model.proofs.ShutLemmas.{not_shut}
use Rattle.route_model.proofs.shut.is_shut.Goals as goal

pub returns-then-maps_zero-clause-unused : goal.returns-then-maps_zero-clause-unused
returns-then-maps_zero-clause-unused c plan = not_shut c.args.model.now c.args.spot.now plan (subst ModelFits c.model.view_is c.model.invariant.fits)

pub returns-else-maps_zero-clause-unused : goal.returns-else-maps_zero-clause-unused
returns-else-maps_zero-clause-unused c plan = not_shut c.args.model.now c.args.spot.now plan (subst ModelFits c.model.view_is c.model.invariant.fits)
