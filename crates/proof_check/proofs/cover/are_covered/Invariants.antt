use Rattle.std.proofs.Common.{All, take}
use Rattle.route_labels.specs.Meaning.{setting_of}
use Rattle.proof_check.specs.Ways.{AreCovered, direction_of}
use Rattle.proof_check.proofs.cover.are_covered.Given as goal

abbrev pub invariant-loop-label : goal.invariant-loop-label
invariant-loop-label l = All (AreCovered (direction_of l.way.backward) (setting_of l.way.field) l.way.threshold l.labels) (take l.label-index l.labels)
