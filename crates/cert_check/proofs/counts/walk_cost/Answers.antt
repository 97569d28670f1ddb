use Rattle.std.proofs.Common.{◌^◌, ℕ, ℤ, List, [], All, length, FitsSigned, subst, sym, ap, ◌∙◌, ◌<◌, rules, arith}
use Rattle.std.specs.Int.{w128}
use Rattle.std.proofs.lemmas.Int.{ints, to_z-of_z}
use Rattle.path_graph.specs.Walk.{GraphParts}
use Rattle.path_graph.specs.Within.{IsWithin}
use Rattle.path_graph.specs.Fit.{int_at}
use Rattle.route_model.specs.Parts.{ModelParts, graph_in}
use Rattle.route_model.proofs.KnownLemmas.{leads_below}
use Rattle.cert_check.specs.Frames.{walk_said}
use Rattle.cert_check.proofs.TermLemmas.{walk_told}
use Rattle.cert_check.proofs.counts.walk_cost.Goals as goal

pub cost_along-requires-clause-there : goal.cost_along-requires-clause-there
cost_along-requires-clause-there c =
    let w = c.args.walk.now in
    let g : GraphParts = graph_in c.args.model.now.graphs w.graph in
    let graph = sym (ap (λ (m : ModelParts). graph_in m.graphs w.graph) c.model.view_is) ∙ c.at-graph.ensures (graph_in [] 0) in
    let below = leads_below g g.ends.source w.arcs g.ends.sink c.requires.fits.there in
    subst (λ (arcs : List ℕ). All (λ a. a < length c.at-graph.result.now.arcs) arcs) (sym c.as_slice-along.ensures) (subst (λ (h : GraphParts). All (λ a. a < length h.arcs) w.arcs) graph below)

pub cost_along-requires-clause-start : goal.cost_along-requires-clause-start
cost_along-requires-clause-start c =
    let near = c.number_at-start.ensures.small (2 ^ 48) (subst (λ (xs : List ℤ). All (IsWithin (2 ^ 48)) xs) (sym c.as_slice-starts.ensures) c.requires.starts) in
    let fits : FitsSigned w128 c.number_at-start.result = omega (arith, ints, near.0, near.1) in
    subst (IsWithin (2 ^ 48)) (sym (to_z-of_z w128 c.number_at-start.result fits)) near

pub returns-clause-cost : goal.returns-clause-cost
returns-clause-cost c =
    let w = c.args.walk.now in
    let p = c.args.priced.now in
    let near = c.number_at-start.ensures.small (2 ^ 48) (subst (λ (xs : List ℤ). All (IsWithin (2 ^ 48)) xs) (sym c.as_slice-starts.ensures) c.requires.starts) in
    let fits : FitsSigned w128 c.number_at-start.result = omega (arith, ints, near.0, near.1) in
    let start = to_z-of_z w128 c.number_at-start.result fits ∙ (c.number_at-start.ensures.number ∙ ap (λ (xs : List ℤ). int_at xs w.graph) c.as_slice-starts.ensures) in
    let graph = sym (sym (ap (λ (m : ModelParts). graph_in m.graphs w.graph) c.model.view_is) ∙ c.at-graph.ensures (graph_in [] 0)) in
    to_z-of_z w128 c.cost_along.result (search rules)
    ∙ walk_told c.args.model.now p (walk_said w) c.cost_along.result _ c.at-graph.result.now c.arcs_at-arcs.result.now c.as_slice-visits.result.now c.as_slice-along.result.now c.cost_along.ensures.cost
    start graph c.arcs_at-arcs.ensures c.as_slice-visits.ensures c.as_slice-along.ensures
