use Rattle.std.proofs.Common.{◌≡◌, ◌≤ℤ◌, ℤ, Vec, Global, w64, to_z, of_z, sym, subst, rules}
use Rattle.std.proofs.lemmas.Int.{to_z-of_z}
use Rattle.route_model.specs.Costs.{cost_above_all}
use Rattle.open_tree.specs.declared.slots.Slot.{Slot}
use Rattle.open_tree.specs.Slots.{IsOpenAt}
use Rattle.open_tree.proofs.PlaceLaws.{open_among}
use Rattle.made_nodes.specs.declared.node.MadeNode.{MadeNode}
use Rattle.search_tree.specs.declared.places.OpenPlace.{OpenPlace}
use Rattle.search_tree.specs.Places.{IsOpenIn}
use Rattle.search_tree.specs.Search.{slots_in}
use Rattle.search_steps.specs.Steps.{IsStep}
use Rattle.search_steps.specs.Trees.{place_at}
use Rattle.solve_run.proofs.RoundLemmas.{most_cost}
use Rattle.solve_run.proofs.growing.place_round.Goals as goal

pub find_columns-requires-clause-spot : goal.find_columns-requires-clause-spot
find_columns-requires-clause-spot c =
    open_among (IsOpenIn c.args.model.now) (slots_in c.args.search) c.args.at (place_at c.args.spot.now c.args.value) c.requires.place c.requires.search.search.fit

pub grow_place-step-requires-clause-spot : goal.grow_place-step-requires-clause-spot
grow_place-step-requires-clause-spot c =
    open_among (IsOpenIn c.args.model.now) (slots_in c.args.search) c.args.at (place_at c.args.spot.now c.args.value) c.requires.place c.requires.search.search.fit

pub grow_place-step-requires-clause-cost : goal.grow_place-step-requires-clause-cost
grow_place-step-requires-clause-cost c =
    let s = c.improved-search.result in
    let same : to_z w64 (of_z w64 s.z) ≡ s.z = search rules in
    subst (λ (z : ℤ). z ≤ℤ cost_above_all c.args.model.now) (sym same) (most_cost c.args.model.now s.best s.z c.improved-search.ensures.within.search.better)

pub stepped-requires-clause-step : goal.stepped-requires-clause-step
stepped-requires-clause-step c =
    let m = c.args.model.now in
    let s = c.improved-search.result in
    let z_same : to_z w64 (of_z w64 s.z) ≡ s.z = search rules in
    let value_same : to_z w64 (of_z w64 c.args.value) ≡ c.args.value = to_z-of_z w64 c.args.value c.ranges.value in
    let comes = subst (λ (z : ℤ). IsStep m (place_at c.args.spot.now (to_z w64 (of_z w64 c.args.value))) z c.args.limits.now.labels c.args.budget c.grow_place-step.result) z_same c.grow_place-step.ensures in
    record {
      place = place_at c.args.spot.now c.args.value;
      is_open = subst (λ (slots : Vec (Slot OpenPlace MadeNode) Global). IsOpenAt slots.items c.args.at (place_at c.args.spot.now c.args.value)) (sym c.improved-search.ensures.slots) c.requires.place;
      comes = subst (λ (v : ℤ). IsStep m (place_at c.args.spot.now v) s.z c.args.limits.now.labels c.args.budget c.grow_place-step.result) value_same comes;
    }
