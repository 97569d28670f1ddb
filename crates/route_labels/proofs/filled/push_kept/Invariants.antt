use Rattle.std.proofs.Common.{◌≡◌, ◌++◌, take}
use Rattle.route_labels.specs.Tables.{kept_in}
use Rattle.route_labels.proofs.filled.push_kept.Given as goal

abbrev pub invariant-loop-entry : goal.invariant-loop-entry
invariant-loop-entry l = l.labels.items ≡ l.initial.labels.items ++ kept_in (take l.entry-index l.entries)
