use Rattle.std.proofs.Common.{◌≡◌, false, take}
use Rattle.std.specs.List.{list_any}
use Rattle.route_model.specs.Places.{ends_at_zero, span_at}
use Rattle.route_model.proofs.shut.maps_zero.Given as goal

abbrev pub invariant-loop-var : goal.invariant-loop-var
invariant-loop-var l = list_any (λ j. ends_at_zero (span_at l.spans j)) (take l.var-index l.vars) ≡ false
