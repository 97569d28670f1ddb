use Rattle.std.proofs.Common.{ℕ, ◌<◌}
use Rattle.std.specs.Prelude.{slice_index}
use Rattle.label_rules.specs.Dominance.{Dominates}
use Rattle.route_labels.specs.Meaning.{setting_of}
use Rattle.proof_check.specs.Index.{label_at}
use Rattle.proof_check.specs.Ways.{direction_of}
use Rattle.proof_check.proofs.cover.has_dominator_at.Given as goal

abbrev pub invariant-loop-place : goal.invariant-loop-place
invariant-loop-place l = (j : ℕ) → j < l.place-index → ¬ (Dominates (direction_of l.backward) (setting_of l.field) (label_at l.labels (slice_index l.places j)) l.label)
