use Rattle.walk_list.specs.Tasks.{AreFull}
use Rattle.walk_list.proofs.listing.fill.Given as goal

abbrev pub invariant-loop-graph : goal.invariant-loop-graph
invariant-loop-graph l = AreFull l.task l.limit l.graph l.tries
