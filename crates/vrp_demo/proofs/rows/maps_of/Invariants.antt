use Rattle.std.proofs.Common.{◌≡◌}
use Rattle.vrp_demo.specs.Generated.{maps_of}
use Rattle.vrp_demo.proofs.rows.maps_of.Given as goal

abbrev pub invariant-loop-arc : goal.invariant-loop-arc
invariant-loop-arc l = l.maps ≡ maps_of l.arc
