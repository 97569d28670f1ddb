use Rattle.std.proofs.Common.{◌≡◌, ℕ, ◌<◌, ◌≤◌, ◌^◌, Option, List, All, length, FitsSigned, sym, ◌∙◌, ap, subst, arith, rules}
use Rattle.std.specs.Prelude.{IfSome, slice_index}
use Rattle.std.specs.Int.{w64}
use Rattle.std.proofs.lemmas.Int.{to_z-of_z}
use Rattle.path_graph.specs.First.{EachBelow}
use Rattle.path_graph.specs.Visits.{visits_along}
use Rattle.path_graph.specs.Walk.{GraphParts, IsFeasibleWalk}
use Rattle.path_graph.specs.Within.{IsWithin}
use Rattle.route_model.specs.declared.parts.Var.{Var}
use Rattle.route_model.specs.Fit.{ModelFits}
use Rattle.route_model.specs.Parts.{ModelParts, graph_in}
use Rattle.route_model.proofs.KnownLemmas.{arcs_there}
use Rattle.multipliers.specs.Quantities.{cost_along}
use Rattle.column_pool.specs.Amounts.{cost_with, entries_with, sum_with}
use Rattle.column_pool.specs.Columns.{first_entries}
use Rattle.column_pool.proofs.ColumnLemmas.{entries_found}
use Rattle.column_pool.proofs.KeptLemmas.{AreTold, cost_told, cost_with_near, rows_with_near, uses_few, visits_declared, walk_mapped}
use Rattle.column_pool.proofs.column.kept_walk.Goals as goal

pub visits_of-requires : goal.visits_of-requires
visits_of-requires c =
    subst (λ (graph : GraphParts). All (λ a. a < length graph.arcs) c.args.arcs.now) (c.at.ensures _)
    (arcs_there (graph_in c.model.inside.graphs c.args.g) c.args.arcs.now (subst (λ (m : ModelParts). IsFeasibleWalk (graph_in m.graphs c.args.g) c.args.arcs.now) (sym c.model.view_is) c.requires.walk))

pub uses_of-requires-clause-mapped : goal.uses_of-requires-clause-mapped
uses_of-requires-clause-mapped c =
    walk_mapped _ c.args.g c.args.arcs.now c.model.invariant.fits
    (subst (λ (m : ModelParts). c.args.g < length m.graphs) (sym c.model.view_is) c.requires.graph)
    (subst (λ (m : ModelParts). IsFeasibleWalk (graph_in m.graphs c.args.g) c.args.arcs.now) (sym c.model.view_is) c.requires.walk)

pub cost_sum-cost-requires-clause-near : goal.cost_sum-cost-requires-clause-near
cost_sum-cost-requires-clause-near c =
    let uses : List ℕ = c.in_ok-uses.uses.items in
    let fits : ModelFits c.args.model.now = subst ModelFits c.model.view_is c.model.invariant.fits in
    let told : AreTold c.args.model.now c.args.g c.args.arcs.now uses =
    subst (λ (m : ModelParts). AreTold m c.args.g c.args.arcs.now uses) c.model.view_is (λ j below. c.in_ok-uses.ensures.uses j (omega (arith, below, c.len.ensures))) in
    subst (λ (us : List ℕ). IsWithin (2 ^ 62) (cost_with (slice_index us) c.as_slice.result.now)) (sym c.as_slice-2.ensures.value)
    (subst (λ (vars : List Var). IsWithin (2 ^ 62) (cost_with (slice_index uses) vars)) (sym c.as_slice.ensures)
    (subst (λ (m : ModelParts). IsWithin (2 ^ 62) (cost_with (slice_index uses) m.vars)) (sym c.model.view_is)
    (cost_with_near c.args.model.now c.args.g c.args.arcs.now uses fits c.requires.graph c.requires.walk c.requires.few told)))

pub first_entries-requires-clause-few : goal.first_entries-requires-clause-few
first_entries-requires-clause-few c =
    let uses : List ℕ = c.in_ok-uses.uses.items in
    let told : AreTold c.args.model.now c.args.g c.args.arcs.now uses =
    subst (λ (m : ModelParts). AreTold m c.args.g c.args.arcs.now uses) c.model.view_is (λ j below. c.in_ok-uses.ensures.uses j (omega (arith, below, c.len.ensures))) in
    let same : length uses ≡ length c.args.model.now.vars = c.in_ok-uses.ensures.len ∙ (c.len.ensures ∙ ap (λ (m : ModelParts). length m.vars) c.model.view_is) in
    subst (λ (us : List ℕ). EachBelow (length us) (λ j. slice_index us j ≤ 16777216)) (sym c.as_slice-3.ensures.value)
    (uses_few c.args.model.now c.args.g c.args.arcs.now uses same told c.requires.few)

pub first_entries-requires-clause-visits : goal.first_entries-requires-clause-visits
first_entries-requires-clause-visits c =
    let fits : ModelFits c.args.model.now = subst ModelFits c.model.view_is c.model.invariant.fits in
    let graph : c.at.result.now ≡ graph_in c.args.model.now.graphs c.args.g = sym (c.at.ensures _) ∙ ap (λ (m : ModelParts). graph_in m.graphs c.args.g) c.model.view_is in
    let seen : c.as_slice-4.result.now ≡ visits_along (graph_in c.args.model.now.graphs c.args.g) c.args.arcs.now =
    c.as_slice-4.ensures.value ∙ (c.in_ok-visits.ensures ∙ ap (λ (g : GraphParts). visits_along g c.args.arcs.now) graph) in
    subst (λ (visits : List (Option ℕ)). All (λ visit. IfSome visit (λ s. s < c.args.model.now.sets)) visits) (sym seen)
    (visits_declared c.args.model.now c.args.g c.args.arcs.now fits c.requires.graph)

pub first_entries-requires-clause-near : goal.first_entries-requires-clause-near
first_entries-requires-clause-near c =
    let uses : List ℕ = c.in_ok-uses.uses.items in
    let fits : ModelFits c.args.model.now = subst ModelFits c.model.view_is c.model.invariant.fits in
    let told : AreTold c.args.model.now c.args.g c.args.arcs.now uses =
    subst (λ (m : ModelParts). AreTold m c.args.g c.args.arcs.now uses) c.model.view_is (λ j below. c.in_ok-uses.ensures.uses j (omega (arith, below, c.len.ensures))) in
    subst (λ (us : List ℕ). All (λ row. IsWithin (2 ^ 62) (sum_with (slice_index us) row.terms)) c.args.model.now.rows) (sym c.as_slice-3.ensures.value)
    (rows_with_near c.args.model.now c.args.g c.args.arcs.now uses fits c.requires.graph c.requires.walk c.requires.few told)

pub returns-clause-kept : goal.returns-clause-kept
returns-clause-kept c =
    let uses : List ℕ = c.in_ok-uses.uses.items in
    let model : ModelParts = c.args.model.now in
    let fits : ModelFits model = subst ModelFits c.model.view_is c.model.invariant.fits in
    let told : AreTold model c.args.g c.args.arcs.now uses =
    subst (λ (m : ModelParts). AreTold m c.args.g c.args.arcs.now uses) c.model.view_is (λ j below. c.in_ok-uses.ensures.uses j (omega (arith, below, c.len.ensures))) in
    let same : length uses ≡ length model.vars = c.in_ok-uses.ensures.len ∙ (c.len.ensures ∙ ap (λ (m : ModelParts). length m.vars) c.model.view_is) in
    let graph : c.at.result.now ≡ graph_in model.graphs c.args.g = sym (c.at.ensures _) ∙ ap (λ (m : ModelParts). graph_in m.graphs c.args.g) c.model.view_is in
    let seen : c.in_ok-visits.visits.items ≡ visits_along (graph_in model.graphs c.args.g) c.args.arcs.now = c.in_ok-visits.ensures ∙ ap (λ (g : GraphParts). visits_along g c.args.arcs.now) graph in
    let arcs : c.from_vec.result ≡ c.args.arcs.now = c.from_vec.ensures ∙ c.in_ok-from_slice.ensures.items in
    let cost_fits : FitsSigned w64 c.cost_sum-cost.result = search rules in
    record {
      graph_there = c.requires.graph;
      few_arcs = omega (arith, ap length arcs, c.requires.few);
      visits = c.from_vec-2.ensures ∙ (seen ∙ ap (visits_along (graph_in model.graphs c.args.g)) (sym arcs));
      cost =
          to_z-of_z w64 c.cost_sum-cost.result cost_fits
          ∙ (c.cost_sum-cost.ensures
          ∙ ((λ i. cost_with (slice_index (c.as_slice-2.ensures.value i)) ((c.as_slice.ensures ∙ ap (λ (m : ModelParts). m.vars) c.model.view_is) i))
          ∙ (cost_told model c.args.g c.args.arcs.now uses told ∙ ap (cost_along model c.args.g) (sym arcs))));
      entries =
          c.from_vec-3.ensures
          ∙ (c.in_ok-entries.ensures
          ∙ ((λ i. entries_with model (c.as_slice-3.ensures.value i) (c.as_slice-4.ensures.value i))
          ∙ (entries_found model c.args.g c.args.arcs.now uses c.in_ok-visits.visits.items fits same told seen ∙ ap (first_entries model c.args.g) (sym arcs))));
    }
