use Rattle.std.proofs.Common.{◌≡◌, ℤ, [], FitsSigned, ap, subst, sym, ◌∙◌, arith}
use Rattle.std.specs.Prelude.{slice_index_or}
use Rattle.std.specs.Int.{w128}
use Rattle.std.proofs.lemmas.Int.{ints, to_z-of_z}
use Rattle.route_model.specs.Fit.{ModelFits}
use Rattle.route_model.specs.Parts.{ModelParts}
use Rattle.multipliers.specs.Quantities.{scaled}
use Rattle.walk_list.specs.Walks.{walk_said}
use Rattle.count_trees.specs.Costs.{arcs_cost}
use Rattle.count_trees.proofs.CostLemmas.{walk_told}
use Rattle.count_trees.proofs.costs.walk_cost.Goals as goal

pub returns : goal.returns
returns c =
    let m = c.args.model.now in
    let w = c.args.walk.now in
    let vars = c.as_slice-vars.ensures ∙ ap (λ (p : ModelParts). p.vars) c.model.view_is in
    let maps = c.as_slice-maps.ensures ∙ (sym (c.at.ensures []) ∙ ap (λ (p : ModelParts). slice_index_or p.maps w.graph []) c.model.view_is) in
    let told = (λ i. arcs_cost (vars i) (maps i) (c.as_slice-arcs.ensures i)) ∙ walk_told m (walk_said w) (subst ModelFits c.model.view_is c.model.invariant.fits) c.requires.fits in
    let near = c.arcs_cost.ensures.small in
    let fits_a : FitsSigned w128 c.arcs_cost.result = omega (arith, ints, near.0, near.1) in
    let cost : c.scaled_up.result ≡ scaled c.arcs_cost.result = c.scaled_up.ensures ∙ ap (λ (x : ℤ). scaled x) (to_z-of_z w128 c.arcs_cost.result fits_a) in
    let fits : FitsSigned w128 c.scaled_up.result = omega (arith, ints, cost, near.0, near.1) in
    record { cost = to_z-of_z w128 c.scaled_up.result fits ∙ (cost ∙ ap (λ (x : ℤ). scaled x) (c.arcs_cost.ensures.cost ∙ told)) }
