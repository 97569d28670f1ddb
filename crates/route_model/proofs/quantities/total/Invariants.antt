use Rattle.std.proofs.Common.{◌≡◌, ◌≤◌, ◌*◌, ◌^◌, take}
use Rattle.route_model.specs.Parts.{plan_with}
use Rattle.route_model.specs.Quantities.{quantity}
use Rattle.route_model.proofs.quantities.total.Given as goal

abbrev pub invariant-loop-taken : goal.invariant-loop-taken
invariant-loop-taken g l = (l.total ≡ quantity (g.Q.WalkQuantity.of_walk l.kind) (plan_with (take l.taken-index l.plan.paths))) × (l.total ≤ l.taken-index * 2 ^ 76)
