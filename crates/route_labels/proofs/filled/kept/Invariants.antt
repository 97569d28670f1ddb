use Rattle.std.proofs.Common.{◌≡◌, take}
use Rattle.route_labels.specs.Tables.{kept_labels}
use Rattle.route_labels.proofs.filled.kept.Given as goal

abbrev pub invariant-loop-entries : goal.invariant-loop-entries
invariant-loop-entries l = l.labels.items ≡ kept_labels (take l.entries-index l.entries-items)
