use Rattle.std.proofs.Common.{subst}
use Rattle.route_model.specs.Fit.{IsModel}
use Rattle.route_model.specs.Parts.{ModelParts}
use Rattle.solve_run.proofs.CertLemmas.{proved_none}
use Rattle.solve_run.proofs.finish.infeasible.Goals as goal

pub returns : goal.returns
returns c limits =
    let model = subst (λ (m : ModelParts). IsModel m) c.model.view_is c.model.invariant in
    record {
      outcome = proved_none c.valid_certificates_hold.ensures c.args.model.now (record { paths = c.new.result }) c.args.nodes model c.requires.tree c.requires.few c.new.ensures;
      passed = tt;
    }
