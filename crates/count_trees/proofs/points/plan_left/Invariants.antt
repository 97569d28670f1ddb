use Rattle.std.proofs.Common.{◌≡◌, take}
use Rattle.proof_rules.specs.Counts.{plan_of}
use Rattle.proof_rules.specs.Nodes.{lows}
use Rattle.walk_list.specs.Walks.{walks_said}
use Rattle.count_trees.proofs.points.plan_left.Given as goal

abbrev pub invariant-loop-k : goal.invariant-loop-k
invariant-loop-k l = l.paths ≡ (plan_of (walks_said (take l.k l.walks)) (lows (take l.k l.boxes))).paths
