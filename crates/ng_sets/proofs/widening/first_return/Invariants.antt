use Rattle.ng_sets.proofs.WideningLemmas.{AreSeen}
use Rattle.ng_sets.proofs.widening.first_return.Given as goal

abbrev pub invariant-loop-to : goal.invariant-loop-to
invariant-loop-to l = AreSeen l.graph l.arcs l.to l.seen
