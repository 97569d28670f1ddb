use Rattle.std.proofs.Common.{◌≡◌, take}
use Rattle.route_model.proofs.places.marks_copy.Given as goal

abbrev pub invariant-loop-graph : goal.invariant-loop-graph
invariant-loop-graph l = l.marks.items ≡ take l.graph-index l.fixed
