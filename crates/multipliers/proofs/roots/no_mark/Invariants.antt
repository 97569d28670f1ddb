use Rattle.std.proofs.Common.{◌≡◌, false, map, take}
use Rattle.multipliers.proofs.roots.no_mark.Given as goal

abbrev pub invariant-loop : goal.invariant-loop
invariant-loop l = l.marks.items ≡ map (λ arc. false) (take l.counter l.graph.arcs)
