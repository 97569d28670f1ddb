use Rattle.std.proofs.Common.{subst}
use Rattle.route_model.specs.Fit.{IsModel}
use Rattle.route_model.specs.Parts.{ModelParts}
use Rattle.vrp_cli.proofs.ToldLemmas.{proof_told_of}
use Rattle.vrp_cli.proofs.solve.proof_text.Goals as goal

pub returns : goal.returns
returns c =
    let model = subst (λ (m : ModelParts). IsModel m) c.model.view_is c.model.invariant in
    proof_told_of c.printed_cert_laws.ensures.again c.args.model.now c.args.cert.now c.write_cert.result model c.requires c.write_cert.ensures.text c.write_cert.ensures.spells
