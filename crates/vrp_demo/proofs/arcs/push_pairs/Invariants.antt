use Rattle.std.proofs.Common.{◌≡◌, ◌-◌, ◌++◌}
use Rattle.vrp_demo.proofs.PairLemmas.{first_pairs}
use Rattle.vrp_demo.proofs.arcs.push_pairs.Given as goal

abbrev pub invariant-loop-head : goal.invariant-loop-head
invariant-loop-head l = l.pairs ≡ l.initial.pairs ++ first_pairs l.size l.tail (l.head - 1)
