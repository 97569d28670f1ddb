use Rattle.std.proofs.Common.{sym, subst}
use Rattle.route_model.specs.Parts.{ModelParts}
use Rattle.route_model.specs.Solution.{ArePaths}
use Rattle.route_model.proofs.KnownLemmas.{plan_arcs}
use Rattle.route_model.proofs.quantities.set_visits.Goals as goal

pub visits_total-requires-clause-arcs : goal.visits_total-requires-clause-arcs
visits_total-requires-clause-arcs c =
    plan_arcs _ c.args.plan.now (subst (λ (m : ModelParts). ArePaths m c.args.plan.now) (sym c.model.view_is) c.requires.paths)
