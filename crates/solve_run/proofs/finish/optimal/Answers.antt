use Rattle.std.proofs.Common.{ℤ, w64, sym, subst}
use Rattle.std.proofs.lemmas.Int.{to_z-of_z}
use Rattle.route_model.specs.Fit.{IsModel}
use Rattle.route_model.specs.Parts.{ModelParts}
use Rattle.certificate.specs.declared.cert.Goal.TheVariants as goal_of
use Rattle.solve_run.specs.declared.outcome.Outcome.TheVariants.{Optimal}
use Rattle.solve_run.specs.Told.{IsEnding}
use Rattle.solve_run.proofs.CertLemmas.{proved_least}
use Rattle.solve_run.proofs.finish.optimal.Goals as goal

pub returns : goal.returns
returns c limits =
    let m = c.args.model.now in
    let plan = c.args.plan in
    let copy = c.in_ok-copy.field-0 in
    let model = subst (λ (p : ModelParts). IsModel p) c.model.view_is c.model.invariant in
    subst
    (λ (z : ℤ). IsEnding m limits (Optimal z plan (record { goal = goal_of.Optimal z; goal_line = 0; end_line = 0; plan = copy; nodes = c.args.nodes })))
    (sym (to_z-of_z w64 c.args.cost c.ranges.cost))
    (record {
      outcome = proved_least c.valid_certificates_hold.ensures m c.args.cost plan copy c.args.nodes model c.requires.plan c.requires.tree c.requires.few c.in_ok-copy.ensures;
      passed = tt;
    })
