use Rattle.std.proofs.Common.{drop}
use Rattle.path_graph.proofs.WalkLemmas.{StandsAt}
use Rattle.path_graph.proofs.walk.is_walk.Given as goal

abbrev pub invariant-loop-a : goal.invariant-loop-a
invariant-loop-a l = StandsAt l.g l.place l.value l.arcs (drop l.a-index l.arcs)
