use Rattle.std.proofs.Common.{◌≡◌, ◌++◌, ◌∷◌, [], List, ℤ, sym, subst, ◌∙◌, rules, w64, to_z, of_z}
use Rattle.std.specs.List.{AllZip}
use Rattle.std.proofs.lemmas.Int.{to_z-of_z}
use Rattle.std.proofs.lemmas.Iterator.Adapters.{YieldsList-from_vec}
use Rattle.std.proofs.lemmas.Iterator.Consumers.{YieldsList-end}
use Rattle.std.proofs.lemmas.List.{map-id}
use Rattle.std.proofs.lemmas.Slice.Zip.{all_zipped_more}
use Rattle.open_tree.specs.declared.pruning.Tested.{Tested}
use Rattle.open_tree.specs.declared.slots.Slot.{Slot}
use Rattle.made_nodes.specs.declared.node.MadeNode.{MadeNode}
use Rattle.search_tree.specs.declared.places.OpenPlace.{OpenPlace}
use Rattle.search_tree.specs.Retested.{IsRetested}
use Rattle.search_tree.proofs.retesting.retested_slots.Goals as goal

pub loop-slot-preserved : goal.loop-slot-preserved
loop-slot-preserved c =
    let z = to_z w64 (of_z w64 c.args.z) in
    subst (λ (ts : List (Tested OpenPlace MadeNode)). AllZip (IsRetested c.args.model.now z) (c.loop-slot.yielded ++ c.in-Some.slot ∷ []) ts)
    (sym {A = List (Tested OpenPlace MadeNode)} c.in_ok-push.ensures.items)
    (all_zipped_more (IsRetested c.args.model.now z) c.loop-slot.yielded c.loop-slot.tested.items c.in-Some.slot c.in_ok-retested_slot.field-0
    c.loop-slot.invariant c.in_ok-retested_slot.ensures)

pub returns : goal.returns
returns c =
    let list = YieldsList-from_vec {s = c.into_iter-slot-iterator.result} c.args.slots.items (search rules) (search rules) in
    let ended = YieldsList-end list c.loop-slot.yielded c.loop-slot.slot-iterator c.loop-slot.yielded_by c.next.result c.next.new.self c.in-None.is c.next.ensures.steps in
    let same : c.loop-slot.yielded ≡ c.args.slots.items = sym (map-id c.loop-slot.yielded) ∙ ended.0 in
    let z = to_z w64 (of_z w64 c.args.z) in
    let all = subst (λ (xs : List (Slot OpenPlace MadeNode)). AllZip (IsRetested c.args.model.now z) xs c.loop-slot.tested.items) same c.loop-slot.invariant in
    subst (λ (y : ℤ). AllZip (IsRetested c.args.model.now y) c.args.slots.items c.loop-slot.tested.items) (to_z-of_z w64 c.args.z (search rules)) all
