use Rattle.std.proofs.Common.{ℕ, ◌<◌}
use Rattle.path_graph.specs.Fit.{is_used_at, WindowFits, window_at}
use Rattle.path_graph.proofs.fit.windows_fit.Given as goal

abbrev pub invariant-loop-place : goal.invariant-loop-place
invariant-loop-place l = (k : ℕ) → k < l.place → WindowFits (is_used_at l.ends k) (window_at l.windows k)
