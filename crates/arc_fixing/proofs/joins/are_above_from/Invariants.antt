use Rattle.std.proofs.Common.{ℕ, ◌<◌}
use Rattle.std.specs.Prelude.{slice_index}
use Rattle.route_labels.specs.Meaning.{setting_of}
use Rattle.proof_check.specs.Index.{label_at}
use Rattle.arc_fixing.specs.Pairs.{IsPairAbove}
use Rattle.arc_fixing.proofs.joins.are_above_from.Given as goal

abbrev pub invariant-loop-rest : goal.invariant-loop-rest
invariant-loop-rest l = (j : ℕ) → j < l.rest-index
    → IsPairAbove (setting_of l.field) (label_at l.fore.labels.now l.place) l.arc (label_at l.back.labels.now (slice_index l.back.places.now j)) l.limit
