use Rattle.std.proofs.Common.{ℤ, map, w64, refl, ap, ◌∙◌, rules}
use Rattle.std.proofs.lemmas.Int.{to_z-of_z}
use Rattle.walk_list.specs.Walks.{walks_said}
use Rattle.search_tree.specs.declared.places.Listing.{Listing}
use Rattle.search_steps.specs.Trees.{listed_at, walks_in}
use Rattle.search_steps.proofs.TreeLemmas.{counts_grown, growth_as}
use Rattle.search_steps.proofs.counts.counts_tree.Goals as goal

pub returns : goal.returns
returns c =
    let m = c.args.model.now in
    let l = c.args.listing.now.value in
    let growth = c.in_ok-growth.growth in
    let boxes = c.args.boxes.now in
    let spot = ap (λ (x : Listing). x.spot) c.deref.ensures in
    let walks = ap walks_said (c.as_slice-walks.ensures ∙ ap (λ (x : Listing). x.walks) c.deref-2.ensures) in
    let same_z = to_z-of_z w64 c.args.z c.ranges.z in
    let same_value = to_z-of_z w64 c.args.value c.ranges.value in
    let grown = growth_as m l.spot _ (walks_in l) _ boxes _ c.args.z _ c.args.budget growth spot walks c.in_ok-boxes.ensures same_z c.in_ok-growth.ensures in
    let places = c.in_ok-rest.ensures ∙ ap (λ (v : ℤ). map (listed_at l v) growth.rest.items) same_value in
    counts_grown m l c.args.value boxes c.args.z c.args.budget growth _ grown refl places (to_z-of_z w64 growth.z (search rules)) refl
