use Rattle.std.proofs.Common.{◌≡◌, map}
use Rattle.solve_run.specs.Told.{told_node}
use Rattle.solve_run.proofs.finish.told_nodes.Given as goal

abbrev pub invariant-loop-node : goal.invariant-loop-node
invariant-loop-node l = l.told ≡ map told_node l.yielded
