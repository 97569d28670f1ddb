use Rattle.std.proofs.Common.{ℕ, ◌<◌, ◌≤ℤ◌}
use Rattle.path_graph.specs.Fit.{int_at, window_at}
use Rattle.path_graph.proofs.rest.are_above.Given as goal

abbrev pub invariant-loop-place : goal.invariant-loop-place
invariant-loop-place l = (k : ℕ) → k < l.place → (window_at l.windows k).low ≤ℤ (int_at l.value.at k)
