-- The order of a queue: the least bound first, and of equal bounds the least node.
use Rattle.std.specs.Prelude.{◌≡◌, ℕ, ◌≤◌, ℤ, ◌<ℤ◌, ◌⊎◌, List, map}
use Rattle.std.specs.declared.cmp.Ordering.{Ordering}
use Rattle.std.specs.declared.cmp.Reverse.{Reverse}
use Rattle.std.specs.Ordering.{int_cmp, nat_cmp, ordering_then}
use Rattle.std.specs.BinaryHeap.{IsHeap}

-- a bound and a node
abbrev pub Pair : Type 0
Pair = ℤ × ℕ

-- a pair has a lower bound than another, or the same bound and no greater node
abbrev pub ComesFirst : Pair → Pair → Type 0
ComesFirst p q = (p.0 <ℤ q.0) ⊎ ((p.0 ≡ q.0) × (p.1 ≤ q.1))

-- the pairs of a heap, whose order is turned round: its greatest item comes first
abbrev pub pairs_of : List (Reverse Pair) → List Pair
pairs_of items = map (λ (item : Reverse Pair). item.0) items

abbrev pub turned_order : Reverse Pair → Reverse Pair → Ordering
turned_order x y = ordering_then (int_cmp y.0.0 x.0.0) (nat_cmp y.0.1 x.0.1)

-- the items are stored as a heap by this order
abbrev pub IsInOrder : List (Reverse Pair) → Type 0
IsInOrder items = IsHeap turned_order items
