use Rattle.std.proofs.Common.{◌≡◌, ◌≤◌, ◌*◌, ◌^◌, take}
use Rattle.route_model.specs.Parts.{plan_with}
use Rattle.route_model.specs.Quantities.{quantity, uses_in}
use Rattle.cert_check.proofs.point.value.Given as goal

abbrev pub invariant-loop-taken : goal.invariant-loop-taken
invariant-loop-taken l = (l.total ≡ quantity (uses_in l.maps l.var) (plan_with (take l.taken-index l.plan.paths))) × (l.total ≤ l.taken-index * 2 ^ 76)
