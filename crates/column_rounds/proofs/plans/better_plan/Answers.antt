use Rattle.std.proofs.Common.{w64, to_z, of_z, ◌∙◌, rules, subst}
use lib.Signed.{◌<ℤ◌}
use Rattle.std.proofs.lemmas.Int.{to_z-of_z}
use Rattle.route_model.specs.Fit.{ModelFits}
use Rattle.count_trees.proofs.FoundLemmas.{found_in, solution_few}
use Rattle.column_rounds.proofs.plans.better_plan.Goals as goal

pub tidy-requires : goal.tidy-requires
tidy-requires c = solution_few c.args.model.now c.args.plan.now (subst ModelFits c.model.view_is c.model.invariant.fits) c.in-Fine.ensures.0

pub returns-in_ok-plan-in-Fine : goal.returns-in_ok-plan-in-Fine
returns-in_ok-plan-in-Fine c =
    let cost = to_z w64 (of_z w64 c.in-Fine.cost) in
    let is = to_z-of_z w64 c.in-Fine.cost (search rules) ∙ c.in-Fine.ensures.1 in
    let less : to_z w64 (of_z w64 c.in-Fine.cost) <ℤ c.args.z = search rules in
    (found_in c.args.model.now c.args.z cost c.args.plan.now c.in_ok-plan-in-Fine.plan c.in-Fine.ensures.0 is less c.in_ok-plan-in-Fine.ensures.tidy c.in_ok-plan-in-Fine.ensures.quantities c.in_ok-plan-in-Fine.ensures.walks).0
