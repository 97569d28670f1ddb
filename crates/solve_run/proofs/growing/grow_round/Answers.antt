use Rattle.std.proofs.Common.{◌≡◌, ℤ, List, w64, to_z, of_z, sym, subst, rules}
use Rattle.open_tree.specs.declared.slots.Slot.{Slot}
use Rattle.open_tree.specs.Slots.{IsOpenAt}
use Rattle.open_tree.proofs.PlaceLaws.{open_among}
use Rattle.made_nodes.specs.declared.node.MadeNode.{MadeNode}
use Rattle.cert_check.specs.Reads.{ItemFits}
use Rattle.search_tree.specs.declared.places.OpenItem.{OpenItem}
use Rattle.search_tree.specs.declared.places.OpenItem.TheVariants.{Counts}
use Rattle.search_tree.specs.declared.places.OpenPlace.{OpenPlace}
use Rattle.search_tree.specs.Places.{IsOpenIn, item_of}
use Rattle.search_tree.specs.Search.{slots_in}
use Rattle.search_steps.specs.Steps.{IsStep}
use Rattle.solve_run.proofs.growing.grow_round.Goals as goal

pub grow_listed-step-requires-clause-fits : goal.grow_listed-step-requires-clause-fits
grow_listed-step-requires-clause-fits c =
    let place = c.place_at-place.result.now in
    let opened = subst (λ (slots : List (Slot OpenPlace MadeNode)). IsOpenAt slots c.args.at place) c.as_slice.ensures.value c.place_at-place.ensures in
    let fit = open_among (IsOpenIn c.args.model.now) (slots_in c.args.search) c.args.at place opened c.requires.search.search.fit in
    subst (λ (item : OpenItem). ItemFits c.args.model.now (item_of item)) c.in-Counts.is fit

pub stepped-requires-clause-step : goal.stepped-requires-clause-step
stepped-requires-clause-step c =
    let m = c.args.model.now in
    let s = c.args.search in
    let place = c.place_at-place.result.now in
    let opened = subst (λ (slots : List (Slot OpenPlace MadeNode)). IsOpenAt slots c.args.at place) c.as_slice.ensures.value c.place_at-place.ensures in
    let at : OpenItem → ℤ → OpenPlace = λ item value. record { item = item; value = value } in
    let z_same : to_z w64 (of_z w64 s.z) ≡ s.z = search rules in
    let value_same : to_z w64 (of_z w64 place.value) ≡ place.value = search rules in
    let comes = c.grow_listed-step.ensures c.args.limits.now.labels in
    let by_z = subst (λ (z : ℤ). IsStep m (at (Counts c.in-Counts.listing c.in-Counts.boxes) (to_z w64 (of_z w64 place.value))) z c.args.limits.now.labels c.args.budget c.grow_listed-step.result) z_same comes in
    let by_value = subst (λ (v : ℤ). IsStep m (at (Counts c.in-Counts.listing c.in-Counts.boxes) v) s.z c.args.limits.now.labels c.args.budget c.grow_listed-step.result) value_same by_z in
    record {
      place = place;
      is_open = opened;
      comes = subst (λ (item : OpenItem). IsStep m (at item place.value) s.z c.args.limits.now.labels c.args.budget c.grow_listed-step.result) (sym c.in-Counts.is) by_value;
    }
