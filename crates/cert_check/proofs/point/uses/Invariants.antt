use Rattle.std.proofs.Common.{◌≡◌, ◌≤◌, take}
use Rattle.route_model.specs.Quantities.{uses_in}
use Rattle.cert_check.proofs.point.uses.Given as goal

abbrev pub invariant-loop-arc : goal.invariant-loop-arc
invariant-loop-arc l = (l.count ≡ uses_in l.maps l.var l.g (take l.arc-index l.arcs)) × (l.count ≤ l.arc-index)
