use Rattle.std.proofs.Common.{ℕ, ◌<◌, ◌≤ℤ◌}
use Rattle.path_graph.specs.Fit.{int_at}
use Rattle.proof_check.proofs.dominance.are_at_most.Given as goal

abbrev pub invariant-loop-place : goal.invariant-loop-place
invariant-loop-place l = (k : ℕ) → k < l.place → int_at l.few.at k ≤ℤ int_at l.many.at k
