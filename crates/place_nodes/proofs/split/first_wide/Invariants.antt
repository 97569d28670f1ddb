use Rattle.std.proofs.Common.{take}
use Rattle.proof_rules.specs.Nodes.{ArePoints}
use Rattle.place_nodes.proofs.split.first_wide.Given as goal

abbrev pub invariant-loop-j : goal.invariant-loop-j
invariant-loop-j l = ArePoints (take l.j l.spans)
