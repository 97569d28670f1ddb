use Rattle.std.proofs.Common.{take}
use Rattle.ng_sets.specs.Near.{FitsGraphs, HasNone}
use Rattle.ng_sets.proofs.near.empty_lists.Given as goal

-- the lists so far fit the graphs so far, and have no set
abbrev pub invariant-loop-graph : goal.invariant-loop-graph
invariant-loop-graph l = FitsGraphs l.lists.items (take l.graph-index l.graphs) × HasNone l.lists.items
