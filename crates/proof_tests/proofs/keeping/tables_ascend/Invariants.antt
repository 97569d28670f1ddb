use Rattle.std.proofs.Common.{ℕ, ◌<◌, ◌+◌}
use Rattle.std.specs.Prelude.{slice_index}
use Rattle.proof_check.specs.Keeps.{graphs_of}
use Rattle.proof_tests.proofs.keeping.tables_ascend.Given as goal

abbrev pub invariant-loop-k : goal.invariant-loop-k
invariant-loop-k l = (j : ℕ) → j < l.k → slice_index (graphs_of l.tables) j < slice_index (graphs_of l.tables) (j + 1)
