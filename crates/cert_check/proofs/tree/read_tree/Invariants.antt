use Rattle.std.proofs.Common.{take}
use Rattle.cert_check.specs.Reads.{IsRead}
use Rattle.cert_check.proofs.tree.read_tree.Given as goal

abbrev pub invariant-loop-node : goal.invariant-loop-node
invariant-loop-node l = IsRead l.model l.z (take l.node-index l.nodes) l.left l.tree
