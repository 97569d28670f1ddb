use Rattle.std.proofs.Common.{◌≡◌, All, false, take}
use Rattle.route_model.specs.Places.{is_dropped}
use Rattle.cert_check.proofs.point.is_kept.Given as goal

abbrev pub invariant-loop-arc : goal.invariant-loop-arc
invariant-loop-arc l = All (λ a. is_dropped l.spot l.g a ≡ false) (take l.arc-index l.arcs)
