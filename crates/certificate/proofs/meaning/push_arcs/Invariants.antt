use Rattle.std.proofs.Common.{◌≡◌, ◌++◌, map, take}
use Rattle.certificate.proofs.meaning.push_arcs.Given as goal

abbrev pub invariant-loop-arc : goal.invariant-loop-arc
invariant-loop-arc l = l.arcs ≡ l.initial.arcs ++ map (λ arc. (l.graph, arc)) (take l.arc-index l.dropped)
