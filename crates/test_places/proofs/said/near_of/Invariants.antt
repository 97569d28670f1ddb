use Rattle.ng_sets.specs.Near.{FitsGraphs}
use Rattle.test_places.proofs.said.near_of.Given as goal

abbrev pub invariant-loop-line : goal.invariant-loop-line
invariant-loop-line l = FitsGraphs l.near l.model.graphs
