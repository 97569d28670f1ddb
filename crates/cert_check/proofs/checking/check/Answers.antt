use Rattle.std.proofs.Common.{subst}
use Rattle.route_model.specs.Fit.{ModelFits}
use Rattle.cert_check.proofs.CertLemmas.{told}
use Rattle.cert_check.proofs.checking.check.Goals as goal

pub returns : goal.returns
returns c =
    let all = told c.args.model.now c.args.cert.now c.read_goal.result (subst ModelFits c.model.view_is c.model.invariant.fits) c.requires c.read_goal.ensures in
    record { valid = all.0; refused = all.1; holds = all.2 }
