use Rattle.std.proofs.Common.{arith, ap, subst}
use Rattle.std.proofs.lemmas.Int.{ints}
use Rattle.route_model.specs.Costs.{least_box_cost, greatest_box_cost}
use Rattle.route_model.specs.Fit.{ModelFits}
use Rattle.route_model.specs.Parts.{ModelParts}
use Rattle.route_model.proofs.SolutionLemmas.{cost_between}
use Rattle.route_model.proofs.costs.box_costs.Goals as goal

pub returns-clause-above_all : goal.returns-clause-above_all
returns-clause-above_all c = omega (arith, ints, c.sum_of.ensures, c.greatest_total.ensures.total, ap greatest_box_cost c.model.view_is)

pub returns-clause-solutions : goal.returns-clause-solutions
returns-clause-solutions c plan solves =
    let fits = subst (λ (m : ModelParts). ModelFits m) c.model.view_is c.model.invariant.fits in
    let between = cost_between c.args.model.now plan fits solves in (
      omega (arith, ints, c.least_total.ensures, ap least_box_cost c.model.view_is, between.0),
      omega (arith, ints, c.sum_of.ensures, c.greatest_total.ensures.total, ap greatest_box_cost c.model.view_is, between.1),
    )
