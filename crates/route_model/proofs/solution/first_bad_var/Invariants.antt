use Rattle.std.proofs.Common.{ℕ, ◌<◌}
use Rattle.route_model.specs.Solution.{InBox}
use Rattle.route_model.proofs.solution.first_bad_var.Given as goal

abbrev pub invariant-loop-var : goal.invariant-loop-var
invariant-loop-var l = (k : ℕ) → k < l.var → InBox l.model l.plan k
