use Rattle.std.proofs.Common.{ℕ, ◌<◌}
use Rattle.route_model.specs.Parts.{taken_at}
use Rattle.route_model.specs.Solution.{IsPath}
use Rattle.route_model.proofs.solution.first_bad_path.Given as goal

abbrev pub invariant-loop-place : goal.invariant-loop-place
invariant-loop-place l = (k : ℕ) → k < l.place → IsPath l.model (taken_at l.plan.paths k)
