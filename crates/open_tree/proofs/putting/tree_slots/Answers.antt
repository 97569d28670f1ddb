use Rattle.std.proofs.Common.{◌≡◌, [], arith}
use Rattle.std.proofs.lemmas.List.{nil_from_length}
use Rattle.open_tree.proofs.SlotLemmas.{tree_ends}
use Rattle.open_tree.proofs.putting.tree_slots.Goals as goal

pub returns : goal.returns
returns g c =
    let none : c.loop-item.rest.items ≡ [] = nil_from_length c.loop-item.rest.items (omega (arith, c.loop-item.rest.ok.0, c.in_default.ensures.cases.0)) in
    tree_ends c.in_ok-slots.slots.items c.loop-item.slots.items c.args.nodes.items c.args.rest.items c.loop-item.rest.items c.in_ok-slots.ensures c.loop-item.invariant none
