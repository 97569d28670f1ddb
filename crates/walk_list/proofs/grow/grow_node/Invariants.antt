use Rattle.std.proofs.Common.{◌≤◌, map, vec_len}
use Rattle.cert_rules.specs.Meaning.{step_of}
use Rattle.route_labels.specs.Meaning.{setting_of}
use Rattle.walk_list.specs.Growing.{IsGrowingAt}
use Rattle.walk_list.proofs.grow.grow_node.Given as goal

abbrev pub invariant-loop-place : goal.invariant-loop-place
invariant-loop-place l =
    IsGrowingAt (setting_of l.field) l.rests.labels.now l.rests.limit (map step_of l.growth.steps.items) l.growth.prefixes.items l.number l.node l.place × (vec_len l.growth.steps ≤ l.room)
