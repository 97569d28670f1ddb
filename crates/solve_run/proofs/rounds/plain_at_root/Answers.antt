use Rattle.std.proofs.Common.{ℤ, List, w64, subst}
use Rattle.std.proofs.lemmas.Int.{to_z-of_z}
use Rattle.proof_rules.specs.OpenTrees.{valued_root}
use Rattle.open_tree.specs.declared.slots.Slot.{Slot}
use Rattle.open_tree.specs.Slots.{IsOpenAt}
use Rattle.open_tree.proofs.PlaceLaws.{open_among}
use Rattle.made_nodes.specs.declared.node.MadeNode.{MadeNode}
use Rattle.search_tree.specs.declared.places.OpenPlace.{OpenPlace}
use Rattle.search_tree.specs.Places.{IsOpenIn}
use Rattle.search_tree.specs.Search.{slots_in}
use Rattle.search_steps.specs.Steps.{IsPlain}
use Rattle.solve_run.proofs.RoundLemmas.{open_root}
use Rattle.solve_run.proofs.rounds.plain_at_root.Goals as goal

-- src/rounds.rt:90:8
pub plain_tree-requires-clause-root : goal.plain_tree-requires-clause-root
plain_tree-requires-clause-root c =
    let place = c.place_at-root.result.now in
    let opened = subst (λ (slots : List (Slot OpenPlace MadeNode)). IsOpenAt slots c.in-Some.at place) c.as_slice-slots.ensures.value c.place_at-root.ensures in
    open_root (valued_root c.args.model.now) (slots_in c.in_ok-fresh.fresh) c.in-Some.at place c.in_ok-fresh.ensures.open opened

-- src/rounds.rt:90:8
pub plain_tree-requires-clause-fits : goal.plain_tree-requires-clause-fits
plain_tree-requires-clause-fits c =
    let place = c.place_at-root.result.now in
    let opened = subst (λ (slots : List (Slot OpenPlace MadeNode)). IsOpenAt slots c.in-Some.at place) c.as_slice-slots.ensures.value c.place_at-root.ensures in
    open_among (IsOpenIn c.args.model.now) (slots_in c.in_ok-fresh.fresh) c.in-Some.at place opened c.in_ok-fresh.ensures.search.fit

-- src/rounds.rt:74:1
pub returns : goal.returns
returns c =
    let m = c.args.model.now in
    let limits = c.args.limits.now in
    let place = c.place_at-root.result.now in
    let opened = subst (λ (slots : List (Slot OpenPlace MadeNode)). IsOpenAt slots c.in-Some.at place) c.as_slice-slots.ensures.value c.place_at-root.ensures in
    record {
      root = place;
      at_root = open_root (valued_root m) (slots_in c.in_ok-fresh.fresh) c.in-Some.at place c.in_ok-fresh.ensures.open opened;
      comes = subst (λ (z : ℤ). IsPlain m place z limits.labels limits.nodes c.plain_tree.result) (to_z-of_z w64 c.args.z c.ranges.z) c.plain_tree.ensures;
    }
