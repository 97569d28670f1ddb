use Rattle.std.proofs.Common.{◌≡◌, Some, w64, to_z, of_z, sym, subst, rules}
use Rattle.route_model.specs.Fit.{IsModel}
use Rattle.route_model.specs.Parts.{ModelParts}
use Rattle.made_nodes.specs.Better.{IsBetter}
use Rattle.solve_run.proofs.RoundLemmas.{kept_better}
use Rattle.solve_run.proofs.growing.improved.Goals as goal

pub returns-in-Some : goal.returns-in-Some
returns-in-Some c =
    let m = c.args.model.now in
    let s = c.args.search in
    let plan = c.in-Some.found.plan in
    let cost = c.in-Some.found.cost in
    let model = subst (λ (p : ModelParts). IsModel p) c.model.view_is c.model.invariant in
    let found = rw c.in-Some.is at c.requires.best in
    let better : IsBetter m s.z (Some plan) cost = found in
    let same : to_z w64 (of_z w64 cost) ≡ cost = search rules in
    let told : IsBetter m s.z (Some plan) (to_z w64 (of_z w64 cost)) = subst (IsBetter m s.z (Some plan)) (sym same) better in
    kept_better m c.args.limits.now s c.with_best.result plan (to_z w64 (of_z w64 cost)) model.fits c.requires.search (c.with_best.ensures.search m c.requires.search.search told) told c.with_best.ensures.slots c.with_best.ensures.cost
