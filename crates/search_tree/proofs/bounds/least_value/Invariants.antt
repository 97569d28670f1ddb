use Rattle.std.proofs.Common.{◌≡◌, [], MatchOption, take}
use Rattle.open_tree.specs.Open.{opens}
use Rattle.search_tree.specs.Bounds.{IsLeastValue}
use Rattle.search_tree.proofs.bounds.least_value.Given as goal

abbrev pub invariant-loop-slot : goal.invariant-loop-slot
invariant-loop-slot l = MatchOption l.least (opens (take l.slot-index l.slots) ≡ []) (IsLeastValue (opens (take l.slot-index l.slots)))
