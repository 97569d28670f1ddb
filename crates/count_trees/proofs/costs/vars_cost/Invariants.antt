use Rattle.std.proofs.Common.{◌≡◌, ◌*◌, take}
use Rattle.path_graph.specs.Sums.{sum_over}
use Rattle.path_graph.specs.Within.{IsWithin}
use Rattle.count_trees.specs.Costs.{cost_at}
use Rattle.count_trees.proofs.costs.vars_cost.Given as goal

abbrev pub invariant-loop-var : goal.invariant-loop-var
invariant-loop-var l = record {
  cost : l.total ≡ sum_over (cost_at l.vars) (take l.var-index l.mapped);
  small : IsWithin (l.var-index * 1000000000) l.total;
}
