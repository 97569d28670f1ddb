use Rattle.std.proofs.Common.{◌≡◌, ◌++◌, map, reverse, vec_len}
use Rattle.open_tree.specs.declared.slots.Slot.TheVariants.{Open}
use Rattle.open_tree.proofs.putting.tree_slots.Given as goal

abbrev pub invariant-loop-item : goal.invariant-loop-item
invariant-loop-item g l = l.slots.items ++ map (λ i. Open i) (reverse l.rest.items)
    ≡ l.initial.slots.items ++ map (λ i. Open i) (reverse l.initial.rest.items)

abbrev pub decreases-loop-item : goal.decreases-loop-item
decreases-loop-item g l = vec_len l.rest
