use Rattle.std.proofs.Common.{ℕ, ◌<◌, ◌≤ℤ◌}
use Rattle.path_graph.specs.Fit.{int_at, window_at}
use Rattle.route_labels.proofs.tests_of.are_within.Given as goal

abbrev pub invariant-loop-place : goal.invariant-loop-place
invariant-loop-place l = (k : ℕ) → k < l.place → ((window_at l.windows k).low ≤ℤ int_at l.values.at k) × (int_at l.values.at k ≤ℤ (window_at l.windows k).high)
