use Rattle.std.proofs.Common.{◌<◌, length}
use Rattle.pricing.proofs.joined_arcs.push_forward.Given as goal

abbrev pub invariant-loop-choice : goal.invariant-loop-choice
invariant-loop-choice l = l.vertex < length l.graph.vertices
