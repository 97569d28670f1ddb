use Rattle.std.proofs.Common.{ℕ, ◌<◌}
use Rattle.route_labels.specs.Meaning.{setting_of}
use Rattle.proof_check.specs.Ways.{IsCoveredAt, direction_of}
use Rattle.proof_check.proofs.cover.is_covered.Given as goal

abbrev pub invariant-loop-k : goal.invariant-loop-k
invariant-loop-k l = (j : ℕ) → j < l.k → IsCoveredAt (direction_of l.way.backward) (setting_of l.way.field) l.way.threshold l.labels l.label j
