use Rattle.std.proofs.Common.{◌≤◌}
use Rattle.fixed_simplex.proofs.basis.Simplex.primal_phase.Given as goal

abbrev pub invariant-loop : goal.invariant-loop
invariant-loop l = l.turns ≤ l.fn.turns
