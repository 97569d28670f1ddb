use Rattle.std.proofs.Common.{ℕ, ◌<◌}
use Rattle.std.specs.Prelude.{slice_index}
use Rattle.route_labels.specs.Meaning.{setting_of}
use Rattle.proof_check.specs.Index.{label_at}
use Rattle.arc_fixing.specs.Pairs.{AreAboveFrom}
use Rattle.arc_fixing.proofs.joins.are_above_at.Given as goal

abbrev pub invariant-loop-place : goal.invariant-loop-place
invariant-loop-place l = (j : ℕ) → j < l.place-index
    → AreAboveFrom (setting_of l.field) (label_at l.fore.labels.now (slice_index l.fore.places.now j)) l.arc l.back.labels.now l.back.places.now l.limit
