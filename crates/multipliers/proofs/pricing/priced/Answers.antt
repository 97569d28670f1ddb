use Rattle.std.proofs.Common.{rules, FitsSigned, ◌≡◌, ◌^◌, ◌+◌, ℤ, List, All, ◌+ℤ◌, ◌≤ℤ◌, sym, subst, ap, ◌∙◌}
use Rattle.std.specs.Int.{w128}
use Rattle.std.proofs.lemmas.Int.{to_z-of_z}
use lib.IntN.{+ℤ_assoc}
use Rattle.path_graph.specs.Within.{IsWithin}
use Rattle.route_model.specs.Quantities.{cost_of}
use Rattle.multipliers.specs.Priced.{arcs_cost, cuts_cost, start_cost}
use Rattle.multipliers.specs.Quantities.{base, plan_sum, reduced_cost, scaled}
use Rattle.multipliers.proofs.ArcLemmas.{walk_told}
use Rattle.multipliers.proofs.BaseLemmas.{paths_fit}
use Rattle.multipliers.proofs.DualityLemmas.{weak_duality}
use Rattle.multipliers.proofs.NearLemmas.{arcs_near, turned_near}
use Rattle.multipliers.proofs.OpenLemmas.{first_open}
use Rattle.multipliers.proofs.PricedLemmas.{reduced_along}
use Rattle.multipliers.proofs.RangeLemmas.{arcs_add_little, partial_walks_stay_near}
use Rattle.multipliers.proofs.pricing.priced.Goals as goal

pub returns-in-Err-clause-fault : goal.returns-in-Err-clause-fault
returns-in-Err-clause-fault c = first_open c.args.model.now c.args.cuts.now c.args.boxes.now c.args.mult.now c.in-Err.row c.in-Err.ensures.open

pub returns-in-Ok-costs_of-clause-duality : goal.returns-in-Ok-costs_of-clause-duality
returns-in-Ok-costs_of-clause-duality c plan solves =
    let m = c.args.model.now in
    let cuts = c.args.cuts.now in
    let boxes = c.args.boxes.now in
    let mult = c.args.mult.now in
    let fits : FitsSigned w128 c.in-Ok.base = search rules in
    let is : c.in-Ok-costs_of.costs.base ≡ base m cuts boxes mult = c.in-Ok-costs_of.ensures.base ∙ (to_z-of_z w128 c.in-Ok.base fits ∙ c.in-Ok.ensures.base) in
    subst (λ (b : ℤ). (b +ℤ plan_sum (reduced_cost m cuts mult) plan) ≤ℤ scaled (cost_of m plan)) (sym is)
    (weak_duality m cuts boxes mult plan c.in-Ok.ensures.fits c.requires.cuts.each solves c.in-Ok.ensures.defined)

pub returns-in-Ok-costs_of-clause-along : goal.returns-in-Ok-costs_of-clause-along
returns-in-Ok-costs_of-clause-along c g v w arcs inside leads =
    let m = c.args.model.now in
    let cuts = c.args.cuts.now in
    let mult = c.args.mult.now in
    let costs = c.in-Ok-costs_of.ensures in
    let walk = walk_told m mult c.in-Ok-costs_of.costs g arcs costs.arcs costs.visits costs.starts in
    reduced_along m cuts mult g v w arcs c.in-Ok.ensures.fits inside leads
    ∙ (sym (+ℤ_assoc (start_cost mult g) (arcs_cost m mult g arcs) (cuts_cost m cuts mult g arcs)) ∙ ap (λ (z : ℤ). z +ℤ cuts_cost m cuts mult g arcs) (sym walk))

pub returns-in-Ok-costs_of-clause-range : goal.returns-in-Ok-costs_of-clause-range
returns-in-Ok-costs_of-clause-range c =
    let costs = c.in-Ok-costs_of.ensures in
    let fits : FitsSigned w128 c.in-Ok.base = search rules in
    record {
      base = subst (IsWithin (2 ^ 107)) (sym (costs.base ∙ to_z-of_z w128 c.in-Ok.base fits)) c.in-Ok.ensures.small;
      arcs = subst (λ (arcs : List (List ℤ)). All (All (IsWithin (2 ^ 72 + 2 ^ 53))) arcs) (sym costs.arcs) (arcs_near c.args.model.now c.args.mult.now c.in-Ok.ensures.fits c.requires.mult);
      visits = subst (λ (visits : List ℤ). All (IsWithin (2 ^ 48)) visits) (sym costs.visits) (turned_near c.args.mult.now.sets c.requires.mult.each_set);
      starts = subst (λ (starts : List ℤ). All (IsWithin (2 ^ 48)) starts) (sym costs.starts) (turned_near c.args.mult.now.paths c.requires.mult.each_path);
      paths = paths_fit c.args.model.now c.args.boxes.now c.in-Ok.ensures.fits c.requires.boxes;
    }

pub returns-in-Ok-costs_of-clause-arc : goal.returns-in-Ok-costs_of-clause-arc
returns-in-Ok-costs_of-clause-arc c = arcs_add_little c.args.model.now c.args.cuts.now c.args.mult.now c.in-Ok.ensures.fits c.requires.mult c.requires.cuts

pub returns-in-Ok-costs_of-clause-walk : goal.returns-in-Ok-costs_of-clause-walk
returns-in-Ok-costs_of-clause-walk c = partial_walks_stay_near c.args.model.now c.args.cuts.now c.args.mult.now c.in-Ok.ensures.fits c.requires.mult c.requires.cuts
