use Rattle.std.proofs.Common.{◌≡◌, ◌*◌, take}
use Rattle.path_graph.specs.Sums.{sum_over}
use Rattle.path_graph.specs.Within.{IsWithin}
use Rattle.count_trees.specs.Costs.{arc_cost}
use Rattle.count_trees.proofs.costs.arcs_cost.Given as goal

abbrev pub invariant-loop-arc : goal.invariant-loop-arc
invariant-loop-arc l = record {
  cost : l.total ≡ sum_over (arc_cost l.vars l.maps) (take l.arc-index l.arcs);
  small : IsWithin (l.arc-index * 16000000000) l.total;
}
