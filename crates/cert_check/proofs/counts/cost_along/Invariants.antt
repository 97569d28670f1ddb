use Rattle.std.proofs.Common.{◌≡◌, ◌+◌, ◌*◌, ◌^◌, ◌+ℤ◌, take}
use Rattle.path_graph.specs.Sums.{sum_over}
use Rattle.path_graph.specs.Within.{IsWithin}
use Rattle.cert_check.specs.Costs.{step_cost}
use Rattle.cert_check.proofs.counts.cost_along.Given as goal

abbrev pub invariant-loop-arc : goal.invariant-loop-arc
invariant-loop-arc l = record {
  cost : l.total ≡ l.start +ℤ sum_over (step_cost l.graph l.arcs l.visits) (take l.arc-index l.walk);
  small : IsWithin (2 ^ 48 + l.arc-index * 2 ^ 73) l.total;
}
