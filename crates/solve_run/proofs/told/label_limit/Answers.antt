use Rattle.std.proofs.Common.{ℤ, FitsSigned, w64, sym, ap, subst, ◌∙◌, rules}
use Rattle.std.proofs.lemmas.Int.{to_z-of_z}
use Rattle.route_model.specs.Fit.{IsModel}
use Rattle.route_model.specs.Parts.{ModelParts}
use Rattle.solve_run.specs.declared.outcome.Outcome.TheVariants.{LabelLimit}
use Rattle.solve_run.specs.Told.{EndsAtWall, best_said}
use Rattle.solve_run.proofs.EndLemmas.{label_ends}
use Rattle.solve_run.proofs.told.label_limit.Goals as goal

pub returns : goal.returns
returns c =
    let m = c.args.model.now in
    let s = c.args.search in
    let bound = c.open_bound-bound.result in
    let best = c.best_told-best.result in
    let model = subst (λ (p : ModelParts). IsModel p) c.model.view_is c.model.invariant in
    let z_fits : FitsSigned w64 s.z = search rules in
    let bound_fits : FitsSigned w64 bound = search rules in
    let told = c.best_told-best.ensures ∙ ap (λ (z : ℤ). best_said z s.best) (to_z-of_z w64 s.z z_fits) in
    let laws = c.walls_pass_limits.ensures in
    subst (λ (b : ℤ). EndsAtWall m c.args.wall (LabelLimit c.args.wall best b)) (sym (to_z-of_z w64 bound bound_fits))
    (label_ends c.searches_are_walls.ensures.bound laws.table laws.list laws.cut_off m s c.args.wall bound best model.fits c.requires.search c.open_bound-bound.ensures told)
