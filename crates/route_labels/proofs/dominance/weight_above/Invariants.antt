use Rattle.std.proofs.Common.{◌≡◌, ◌≤◌, ◌*◌, ◌^◌, pos}
use Rattle.route_labels.specs.Arrival.{weight_over}
use Rattle.route_labels.proofs.dominance.weight_above.Given as goal

abbrev pub invariant-loop-i : goal.invariant-loop-i
invariant-loop-i l = record {
  weight : pos l.weight ≡ weight_over l.y l.a l.b l.i;
  light : l.weight ≤ l.i * 2 ^ 48;
}
