use Rattle.std.proofs.Common.{ℕ, ◌<◌}
use Rattle.label_rules.specs.Dominance.{Dominates}
use Rattle.route_labels.specs.Meaning.{setting_of}
use Rattle.proof_check.specs.Index.{label_at}
use Rattle.proof_check.specs.Ways.{direction_of}
use Rattle.proof_check.proofs.root.has_root.Given as goal

abbrev pub invariant-loop-label : goal.invariant-loop-label
invariant-loop-label l = (k : ℕ) → k < l.label-index → ¬ (Dominates (direction_of l.backward) (setting_of l.field) (label_at l.labels k) l.root)
