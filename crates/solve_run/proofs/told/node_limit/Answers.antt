use Rattle.std.proofs.Common.{ℤ, FitsSigned, w64, sym, ap, subst, ◌∙◌, rules}
use Rattle.std.proofs.lemmas.Int.{to_z-of_z}
use Rattle.route_model.specs.Fit.{IsModel}
use Rattle.route_model.specs.Parts.{ModelParts}
use Rattle.solve_run.specs.declared.outcome.Outcome.TheVariants.{NodeLimit}
use Rattle.solve_run.specs.Told.{EndsAtNodes, best_said}
use Rattle.solve_run.proofs.EndLemmas.{node_ends}
use Rattle.solve_run.proofs.told.node_limit.Goals as goal

pub returns : goal.returns
returns c =
    let m = c.args.model.now in
    let s = c.args.search in
    let nodes = c.in_ok-nodes.nodes in
    let bound = c.open_bound-bound.result in
    let best = c.best_told-best.result in
    let model = subst (λ (p : ModelParts). IsModel p) c.model.view_is c.model.invariant in
    let z_fits : FitsSigned w64 s.z = search rules in
    let bound_fits : FitsSigned w64 bound = search rules in
    let told = c.best_told-best.ensures ∙ ap (λ (z : ℤ). best_said z s.best) (to_z-of_z w64 s.z z_fits) in
    let laws = c.searches_are_walls.ensures in
    subst (λ (b : ℤ). EndsAtNodes m s (NodeLimit nodes best b)) (sym (to_z-of_z w64 bound bound_fits))
    (node_ends laws.stopped laws.bound m s nodes bound best model.fits c.requires.search c.requires.some_open c.requires.tested c.open_bound-bound.ensures c.in_ok-nodes.ensures told)
