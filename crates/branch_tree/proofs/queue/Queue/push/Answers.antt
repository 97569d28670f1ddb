use Rattle.std.proofs.Common.{◌∷◌, List, ℤ, subst}
use Rattle.std.specs.Int.{w128}
use Rattle.std.specs.BinaryHeap.{heap_items}
use Rattle.std.specs.List.Sorted.{IsPermutation}
use Rattle.std.specs.declared.cmp.Reverse.{Reverse}
use Rattle.std.proofs.lemmas.Int.{to_z-of_z}
use Rattle.std.proofs.lemmas.List.Sorted.{IsPermutation-map}
use Rattle.branch_tree.specs.Order.{Pair, pairs_of}
use Rattle.branch_tree.proofs.queue.Queue.push.Goals as goal

pub returns-clause-ok : goal.returns-clause-ok
returns-clause-ok c =
    let pushed : List Pair = pairs_of (heap_items c.push.new.self) in
    subst (λ (pairs : List Pair). IsPermutation ((c.args.bound, c.args.node) ∷ pairs) pushed) c.self.view_is
    (subst (λ (bound : ℤ). IsPermutation ((bound, c.args.node) ∷ pairs_of (heap_items c.self.inside.heap)) pushed) (to_z-of_z w128 c.args.bound c.ranges.bound)
    (IsPermutation-map (λ (item : Reverse Pair). item.0) _ _ c.in_ok-push.ensures.permutation))
