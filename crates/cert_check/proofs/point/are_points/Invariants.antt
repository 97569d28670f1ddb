use Rattle.std.proofs.Common.{take}
use Rattle.proof_rules.specs.Nodes.{ArePoints}
use Rattle.cert_check.proofs.point.are_points.Given as goal

abbrev pub invariant-loop-span : goal.invariant-loop-span
invariant-loop-span l = ArePoints (take l.span-index l.boxes)
