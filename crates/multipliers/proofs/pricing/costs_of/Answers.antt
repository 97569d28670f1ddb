use Rattle.std.proofs.Common.{ℕ, List, All, length, map, ap, sym, subst, ◌∙◌}
use Rattle.path_graph.specs.Fit.{int_at}
use Rattle.route_model.specs.Fit.{MapFits, ModelFits}
use Rattle.route_model.specs.Parts.{ModelParts}
use Rattle.path_graph.specs.Sums.{sum_over}
use Rattle.multipliers.proofs.ArcLemmas.{all_maps_fit, arcs_told}
use Rattle.multipliers.proofs.pricing.costs_of.Goals as goal

pub arc_costs-requires-clause-fits : goal.arc_costs-requires-clause-fits
arc_costs-requires-clause-fits c =
    let m = c.args.model.now in
    let fits : ModelFits m = subst ModelFits c.model.view_is c.model.invariant.fits in
    let count = c.in_ok-units.ensures.count in
    let units = ap length c.as_slice.ensures.value ∙ count in
    let maps = c.as_slice-2.ensures ∙ ap (λ (x : ModelParts). x.maps) c.model.view_is in
    subst (λ (xs : List (List (List ℕ))). All (All (MapFits (length c.as_slice.result.now))) xs) (sym maps)
    (subst (λ (n : ℕ). All (All (MapFits n)) m.maps) (sym units) (all_maps_fit m fits))

pub returns-clause-arcs : goal.returns-clause-arcs
returns-clause-arcs c =
    let m = c.args.model.now in
    let fits : ModelFits m = subst ModelFits c.model.view_is c.model.invariant.fits in
    let maps = c.as_slice-2.ensures ∙ ap (λ (x : ModelParts). x.maps) c.model.view_is in
    c.in_ok-arcs.ensures
    ∙ ((λ i. map (map (sum_over (int_at (c.as_slice.ensures.value i)))) (maps i)) ∙ arcs_told m c.args.mult.now c.in_ok-units.units.items fits c.in_ok-units.ensures)
