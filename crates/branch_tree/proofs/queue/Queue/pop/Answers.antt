use Rattle.std.proofs.Common.{◌∷◌, List, All, subst}
use Rattle.std.specs.BinaryHeap.{heap_items}
use Rattle.std.specs.List.Sorted.{IsPermutation}
use Rattle.std.specs.declared.cmp.Reverse.{Reverse}
use Rattle.std.proofs.lemmas.List.Sorted.{IsPermutation-map}
use Rattle.branch_tree.specs.Order.{ComesFirst, Pair, pairs_of}
use Rattle.branch_tree.proofs.OrderLemmas.{first_of_all}
use Rattle.branch_tree.proofs.queue.Queue.pop.Goals as goal

pub returns-clause-left : goal.returns-clause-left
returns-clause-left c =
    subst (λ (pairs : List Pair). IsPermutation pairs (c.in-Some.field-0.0 ∷ pairs_of (heap_items c.pop.new.self))) c.self.view_is
    (IsPermutation-map (λ (item : Reverse Pair). item.0) _ _ c.in-Some.ensures.permutation)

pub returns-clause-least : goal.returns-clause-least
returns-clause-least c =
    subst (All (ComesFirst c.in-Some.field-0.0)) c.self.view_is
    (first_of_all c.in-Some.field-0 (heap_items c.self.inside.heap) (c.in-Some.ensures.heap_order c.self.invariant).1)
