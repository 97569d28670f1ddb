use Rattle.ng_sets.specs.Near.{FitsGraphs}
use Rattle.column_rounds.proofs.adding.widen_by.Given as goal

abbrev pub invariant-loop-walk : goal.invariant-loop-walk
invariant-loop-walk l = FitsGraphs l.near l.model.graphs
