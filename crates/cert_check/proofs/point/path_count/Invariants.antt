use Rattle.std.proofs.Common.{◌≡◌, ◌≤◌, ◌*◌, ◌^◌, take}
use Rattle.route_model.specs.Parts.{plan_with}
use Rattle.route_model.specs.Quantities.{is_of, quantity}
use Rattle.cert_check.proofs.point.path_count.Given as goal

abbrev pub invariant-loop-taken : goal.invariant-loop-taken
invariant-loop-taken l = (l.total ≡ quantity (is_of l.g) (plan_with (take l.taken-index l.plan.paths))) × (l.total ≤ l.taken-index * 2 ^ 76)
