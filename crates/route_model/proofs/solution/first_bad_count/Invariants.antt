use Rattle.std.proofs.Common.{ℕ, ◌<◌}
use Rattle.route_model.specs.Solution.{CountFits}
use Rattle.route_model.proofs.solution.first_bad_count.Given as goal

abbrev pub invariant-loop-graph : goal.invariant-loop-graph
invariant-loop-graph l = (k : ℕ) → k < l.graph → CountFits l.model.graphs l.plan k
