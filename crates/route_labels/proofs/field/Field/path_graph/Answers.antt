use Rattle.std.proofs.Common.{subst}
use Rattle.route_model.specs.Fit.{ModelFits}
use Rattle.route_labels.proofs.AgreeLemmas.{parts_agree}
use Rattle.route_labels.proofs.field.Field.path_graph.Goals as goal

pub returns-clause-agree : goal.returns-clause-agree
returns-clause-agree c = parts_agree c.args.self.now (subst ModelFits c.model.view_is c.model.invariant.fits) c.requires
