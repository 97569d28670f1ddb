use Rattle.std.proofs.Common.{◌≡◌, take}
use Rattle.walk_list.specs.Walks.{walks_said}
use Rattle.count_trees.specs.Costs.{walk_costs}
use Rattle.count_trees.proofs.costs.walk_costs.Given as goal

abbrev pub invariant-loop-walk : goal.invariant-loop-walk
invariant-loop-walk l = l.costs ≡ walk_costs l.model (walks_said (take l.walk-index l.walks))
