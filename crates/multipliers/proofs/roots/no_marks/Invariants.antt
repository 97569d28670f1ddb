use Rattle.std.proofs.Common.{◌≡◌, false, map, take}
use Rattle.multipliers.proofs.roots.no_marks.Given as goal

abbrev pub invariant-loop-graph : goal.invariant-loop-graph
invariant-loop-graph l = l.fixed.items ≡ map (λ g. map (λ arc. false) g.arcs) (take l.graph-index l.graphs)
