use Rattle.std.proofs.Common.{◌≡◌, ◌≤◌, take}
use Rattle.std.specs.Prelude.{count_by}
use Rattle.route_model.specs.Quantities.{is_mapped}
use Rattle.route_model.proofs.quantities.UsesWalkQuantity.of_walk.Given as goal

abbrev pub invariant-loop-arc : goal.invariant-loop-arc
invariant-loop-arc l = (l.count ≡ count_by (is_mapped l.self.maps.now l.self.var l.graph) (take l.arc-index l.arcs)) × (l.count ≤ l.arc-index)
