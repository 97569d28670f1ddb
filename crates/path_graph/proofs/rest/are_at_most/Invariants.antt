use Rattle.std.proofs.Common.{ℕ, ◌<◌, ◌≤ℤ◌, ◌+ℤ◌}
use Rattle.path_graph.specs.Fit.{int_at}
use Rattle.path_graph.proofs.rest.are_at_most.Given as goal

abbrev pub invariant-loop-place : goal.invariant-loop-place
invariant-loop-place l =
    (k : ℕ) → k < l.place → (int_at l.front.at k +ℤ int_at l.arc.needs k) ≤ℤ (int_at l.back.at k)
