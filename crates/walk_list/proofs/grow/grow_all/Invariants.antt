use Rattle.std.proofs.Common.{◌≤◌, ◌+◌, ◌-◌, map, vec_len}
use Rattle.cert_rules.specs.Meaning.{step_of}
use Rattle.route_labels.specs.Meaning.{setting_of}
use Rattle.walk_list.specs.Growing.{IsDoneBelow}
use Rattle.walk_list.proofs.grow.grow_all.Given as goal

abbrev pub invariant-loop-number : goal.invariant-loop-number
invariant-loop-number l =
    IsDoneBelow (setting_of l.field) l.rests.labels.now l.rests.limit (map step_of l.growth.steps.items) l.growth.prefixes.items l.number × (vec_len l.growth.steps ≤ l.room)

abbrev pub decreases-loop-number : goal.decreases-loop-number
decreases-loop-number l = (l.room + 1) - l.number
