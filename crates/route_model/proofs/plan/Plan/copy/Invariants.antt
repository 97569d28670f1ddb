use Rattle.std.proofs.Common.{◌≡◌, take}
use Rattle.route_model.proofs.plan.Plan.copy.Given as goal

abbrev pub invariant-loop-taken : goal.invariant-loop-taken
invariant-loop-taken l = l.paths.items ≡ take l.taken-index l.self.paths
