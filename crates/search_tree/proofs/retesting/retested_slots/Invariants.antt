use Rattle.std.specs.List.{AllZip}
use Rattle.search_tree.specs.Retested.{IsRetested}
use Rattle.search_tree.proofs.retesting.retested_slots.Given as goal

abbrev pub invariant-loop-slot : goal.invariant-loop-slot
invariant-loop-slot l = AllZip (IsRetested l.model l.z) l.yielded l.tested.items
