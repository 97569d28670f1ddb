use Rattle.std.proofs.Common.{take}
use Rattle.proof_rules.specs.Nodes.{ArePoints}
use Rattle.count_trees.proofs.points.first_wide.Given as goal

abbrev pub invariant-loop-i : goal.invariant-loop-i
invariant-loop-i l = ArePoints (take l.i l.boxes)
