use Rattle.std.proofs.Common.{ℕ, ◌<◌}
use Rattle.path_graph.specs.Fit.{vertex_at}
use Rattle.route_model.specs.Fit.{IsDeclared}
use Rattle.route_model.proofs.fit.graph_fits.Given as goal

abbrev pub invariant-loop-v : goal.invariant-loop-v
invariant-loop-v l = (k : ℕ) → k < l.v → IsDeclared l.sets (vertex_at l.graph.vertices k)
