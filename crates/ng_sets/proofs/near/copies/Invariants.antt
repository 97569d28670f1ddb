use Rattle.std.proofs.Common.{◌≡◌, take}
use Rattle.ng_sets.proofs.near.copies.Given as goal

-- the lists so far are copied
abbrev pub invariant-loop-list : goal.invariant-loop-list
invariant-loop-list l = l.copied.items ≡ take l.list-index l.lists
