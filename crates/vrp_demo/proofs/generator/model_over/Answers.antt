use Rattle.std.proofs.Common.{◌≡◌, ◌≤◌, ◌^◌, List, map, length, sym, ap, ◌∙◌, subst}
use Rattle.std.specs.Prelude.{All}
use Rattle.path_graph.specs.Parts.{GraphParts}
use Rattle.route_model.specs.declared.parts.Var.{Var}
use Rattle.route_model.specs.Fit.{ModelFits, cost_range}
use Rattle.vrp_demo.specs.Arcs.{all_pairs, variable_over, AreIn}
use Rattle.vrp_demo.proofs.GraphLemmas.{pairs_are_in, vertex_count}
use Rattle.vrp_demo.proofs.ModelLemmas.{model_fits, model_is, costs_small}
use Rattle.vrp_demo.proofs.generator.model_over.Goals as goal

pub variables_over-requires : goal.variables_over-requires
variables_over-requires c =
    let stops = c.args.stops.now in
    subst (All (AreIn stops)) (sym c.requires.pairs) (pairs_are_in c.args.size stops c.requires.stops.count)

pub rows_over-requires-clause-vertices : goal.rows_over-requires-clause-vertices
rows_over-requires-clause-vertices c =
    ap (λ (g : GraphParts). length g.vertices) c.in_ok-graph.ensures ∙ vertex_count c.args.size

pub build_over-requires-clause-fits : goal.build_over-requires-clause-fits
build_over-requires-clause-fits c =
    let size = c.args.size in
    let stops = c.args.stops.now in
    let vars : c.in_ok-vars.vars ≡ map (variable_over stops) (all_pairs size) =
    c.in_ok-vars.ensures ∙ ap (map (variable_over stops)) c.requires.pairs
    in
    subst ModelFits (sym (model_is size stops _ _ _ c.in_ok-graph.ensures vars c.in_ok-rows.ensures)) (model_fits size stops c.requires.size c.requires.stops)

pub build_over-requires-clause-costs : goal.build_over-requires-clause-costs
build_over-requires-clause-costs c =
    let size = c.args.size in
    let stops = c.args.stops.now in
    let vars : c.in_ok-vars.vars ≡ map (variable_over stops) (all_pairs size) =
    c.in_ok-vars.ensures ∙ ap (map (variable_over stops)) c.requires.pairs
    in
    subst (λ (vs : List Var). cost_range vs ≤ 2 ^ 40) (sym vars) (costs_small size stops c.requires.size c.requires.stops)
