use Rattle.std.proofs.Common.{ℕ, ◌<◌, ◌≢◌, get_or}
use Rattle.path_graph.specs.Parts.{arc_at}
use Rattle.path_graph.proofs.ranking.part_from.Given as goal

abbrev pub invariant-loop-i : goal.invariant-loop-i
invariant-loop-i l = (k : ℕ) → k < l.i → (arc_at l.arcs (get_or l.path k 0)).tail ≢ l.vertex
