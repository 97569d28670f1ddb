use Rattle.std.proofs.Common.{◌≡◌, length}
use Rattle.cert_check.specs.Frames.{left_open}
use Rattle.cert_check.proofs.moves.next.Given as goal

abbrev pub invariant-loop-frame : goal.invariant-loop-frame
invariant-loop-frame l = left_open l.tree ≡ left_open l.fn.tree

abbrev pub decreases-loop-frame : goal.decreases-loop-frame
decreases-loop-frame l = length l.tree.frames
