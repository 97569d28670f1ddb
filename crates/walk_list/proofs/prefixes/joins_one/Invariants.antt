use Rattle.std.proofs.Common.{ℕ, ◌<◌, get_or}
use Rattle.label_rules.specs.Joins.{JoinsWithin}
use Rattle.route_labels.specs.Meaning.{setting_of}
use Rattle.list_check.specs.Heads.{label_at}
use Rattle.walk_list.proofs.prefixes.joins_one.Given as goal

abbrev pub invariant-loop-place : goal.invariant-loop-place
invariant-loop-place l = (k : ℕ) → k < l.place-index → ¬ (JoinsWithin (setting_of l.field) l.label l.arc (label_at l.rests.labels.now (get_or l.places k 0)) l.rests.limit)
