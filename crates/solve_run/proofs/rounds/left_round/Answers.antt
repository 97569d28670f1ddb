use Rattle.std.proofs.Common.{ℤ, Option, Some, w64, sym, subst, ◌∙◌}
use Rattle.std.proofs.lemmas.Int.{to_z-of_z}
use Rattle.route_model.specs.declared.plan.Plan.{Plan}
use Rattle.route_model.specs.Fit.{IsModel}
use Rattle.route_model.specs.Parts.{ModelParts}
use Rattle.made_nodes.specs.Better.{IsBetter}
use Rattle.solve_run.proofs.RoundLemmas.{better_goes}
use Rattle.solve_run.proofs.rounds.left_round.Goals as goal

-- src/rounds.rt:104:1
pub returns-in-Some : goal.returns-in-Some
returns-in-Some c =
    let m = c.args.model.now in
    let s = c.args.search in
    let plan = c.in-Some.plan in
    let new = c.with_best.result in
    let model = subst (λ (p : ModelParts). IsModel p) c.model.view_is c.model.invariant in
    let same = to_z-of_z w64 c.args.less c.ranges.less in
    let better = subst (λ (found : Option Plan). IsBetter m s.z found c.args.less) c.in-Some.is c.requires.better in
    let judged = subst (λ (z : ℤ). IsBetter m s.z (Some plan) z) (sym same) better in
    better_goes m c.args.limits.now s new plan c.args.less model.fits c.requires.search.within (c.with_best.ensures.search m c.requires.search.within.search judged) better
    c.with_best.ensures.slots (c.with_best.ensures.cost ∙ same)
