use Rattle.std.proofs.Common.{ℕ, ◌<◌}
use Rattle.route_model.specs.Solution.{SetFits}
use Rattle.route_model.proofs.solution.first_bad_set.Given as goal

abbrev pub invariant-loop-set : goal.invariant-loop-set
invariant-loop-set l = (k : ℕ) → k < l.set → SetFits l.model l.plan k
