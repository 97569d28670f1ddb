use Rattle.walk_list.proofs.WalkLemmas.{AreWalksBelow}
use Rattle.walk_list.proofs.walks.all_walks.Given as goal

abbrev pub invariant-loop-graph : goal.invariant-loop-graph
invariant-loop-graph l = AreWalksBelow l.task l.tries l.graph l.walks
