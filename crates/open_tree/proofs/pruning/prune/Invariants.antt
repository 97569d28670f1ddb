use Rattle.std.proofs.Common.{◌≡◌, ◌+◌, ◌≤◌, ◌++◌, All, length, max}
use Rattle.std.specs.Vec.Iter.{into_iter_items}
use Rattle.open_tree.specs.Slots.{IsSmall, pruned}
use Rattle.open_tree.proofs.pruning.prune.Given as goal

abbrev pub invariant-loop-one : goal.invariant-loop-one
invariant-loop-one g l = record {
  small : All IsSmall (into_iter_items l.one-iterator);
  stays : pruned 0 l.fn.tested.items ≡ l.kept.items ++ pruned l.skip (into_iter_items l.one-iterator);
  room : max l.skip 1 + length (into_iter_items l.one-iterator) ≤ length l.fn.tested.items + 1;
}
