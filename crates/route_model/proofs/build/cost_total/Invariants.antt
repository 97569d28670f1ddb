use Rattle.std.proofs.Common.{◌≡◌, ◌≤◌, ◌*◌, take}
use Rattle.route_model.specs.Fit.{cost_range}
use Rattle.route_model.proofs.build.cost_total.Given as goal

abbrev pub invariant-loop-var : goal.invariant-loop-var
invariant-loop-var l = (l.total ≡ cost_range (take l.var-index l.vars)) × (l.total ≤ l.var-index * 1000000000000000)
