use Rattle.path_graph.specs.Fit.{vertex_at}
use Rattle.path_graph.specs.Within.{AreWithin}
use Rattle.model_tests.proofs.paths.forward.Given as goal

abbrev pub invariant-loop-a : goal.invariant-loop-a
invariant-loop-a l = AreWithin (vertex_at l.g.vertices l.place).windows l.value
