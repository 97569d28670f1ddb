use Rattle.std.proofs.Common.{ℕ, ◌<◌}
use Rattle.route_model.specs.Solution.{RowHolds}
use Rattle.route_model.proofs.solution.first_bad_row.Given as goal

abbrev pub invariant-loop-row : goal.invariant-loop-row
invariant-loop-row l = (k : ℕ) → k < l.row → RowHolds l.model l.plan k
