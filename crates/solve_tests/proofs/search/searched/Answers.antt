use Rattle.std.proofs.Common.{subst}
use Rattle.route_model.specs.Fit.{IsModel}
use Rattle.route_model.specs.Parts.{ModelParts}
use Rattle.route_model.proofs.SolutionLemmas.{solution_counted}
use Rattle.solve_tests.proofs.search.searched.Goals as goal

pub judge-requires : goal.judge-requires
judge-requires g c =
    let model = subst (λ (p : ModelParts). IsModel p) c.model.view_is c.model.invariant in
    solution_counted c.in_ok-model.model c.in-Optimal.plan model.fits c.in-Optimal.ensures.outcome.least.solution
