use Rattle.std.proofs.Common.{◌≡◌, ◌≤◌, ◌*◌, ◌^◌, pos}
use Rattle.concatenate.specs.Costs.{weight_reached}
use Rattle.concatenate.proofs.joins.weight_reached.Given as goal

abbrev pub invariant-loop-i : goal.invariant-loop-i
invariant-loop-i l = record {
  weight : pos l.weight ≡ weight_reached l.cuts l.y l.front l.rest l.i;
  light : l.weight ≤ l.i * 2 ^ 48;
}
