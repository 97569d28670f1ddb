-- What a call that builds graphs returned.
use Rattle.path_graph.specs.declared.fault.GraphFault.{GraphFault}
use Rattle.path_graph.specs.declared.fault.GraphFault.TheVariants.{FreeCycle, Memory}

-- a fault is that of a cycle, and then P holds; running out of memory says nothing
abbrev pub HasCycleWhere : Type 0 → GraphFault → Type 0
HasCycleWhere P Memory = Unit {0}
HasCycleWhere P (FreeCycle cycle) = P
