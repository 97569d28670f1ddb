use Rattle.walk_list.specs.Tasks.{AreWholeBelow}
use Rattle.walk_list.proofs.listing.list_all.Given as goal

abbrev pub invariant-loop-graph : goal.invariant-loop-graph
invariant-loop-graph l = AreWholeBelow l.task l.limit l.room l.graph l.tries
