use Rattle.std.proofs.Common.{take}
use Rattle.path_graph.specs.Fit.{int_at}
use Rattle.multipliers.proofs.ArcLemmas.{IsSumSoFar}
use Rattle.multipliers.proofs.arcs.unit_sum.Given as goal

abbrev pub invariant-loop-var : goal.invariant-loop-var
invariant-loop-var l = IsSumSoFar (int_at l.units) (take l.var-index l.vars) l.var-index l.total
