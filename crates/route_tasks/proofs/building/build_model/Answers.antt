use Rattle.std.proofs.Common.{◌∙◌, sym, ap, subst, List, [], ◌∷◌, arith, ℕ, Err}
use Rattle.path_graph.specs.Walk.{GraphParts}
use Rattle.route_model.specs.declared.parts.Var.{Var}
use Rattle.route_model.specs.Fit.{ModelFits, cost_range}
use Rattle.route_tasks.specs.ModelOf.{rows_of}
use Rattle.route_tasks.proofs.ModelLemmas.{model_fits, costs_fit, parts_are}
use Rattle.route_tasks.proofs.building.build_model.Goals as goal

pub build-requires : goal.build-requires
build-requires c =
    let task = c.args.task.now in
    let count = c.customer_count-n.ensures.count in
    let are = parts_are task c.in_ok-vars.vars c.in_ok-rows.rows c.customer_count-n.result c.in_ok-graphs.graphs c.in_ok-maps-2.maps c.in_ok-vars.ensures
    (c.in_ok-rows.ensures ∙ ap rows_of count) count
    (c.in_ok-graphs.ensures ∙ ap (λ (g : GraphParts). g ∷ []) c.in_ok-graph.ensures)
    (c.in_ok-maps-2.ensures ∙ ap (λ (m : List (List ℕ)). m ∷ []) c.in_ok-maps.ensures) in
    subst ModelFits (sym are) (model_fits task c.requires)

pub unreachable-requires : goal.unreachable-requires
unreachable-requires c =
    let task = c.args.task.now in
    let high = c.in-Err-CostRange.ensures.cost_range.0 (λ i. Err (c.in-Err-CostRange.field-0-is i)) in
    let same = ap (λ (vars : List Var). cost_range vars) c.in_ok-vars.ensures in
    let most = costs_fit task c.requires in
    omega (arith, high, same, most)
