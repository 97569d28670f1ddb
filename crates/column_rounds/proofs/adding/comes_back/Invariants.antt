use Rattle.ng_sets.proofs.WideningLemmas.{AreSeen}
use Rattle.column_rounds.proofs.adding.comes_back.Given as goal

abbrev pub invariant-loop-arc : goal.invariant-loop-arc
invariant-loop-arc l = AreSeen l.graph l.arcs l.arc-index l.seen
