use Rattle.std.proofs.Common.{◌≤◌}
use Rattle.fixed_simplex.proofs.basis.Simplex.dual_phase.Given as goal

abbrev pub invariant-loop-count : goal.invariant-loop-count
invariant-loop-count l = l.turns ≤ l.fn.turns
