use Rattle.std.proofs.Common.{map, take}
use Rattle.route_labels.specs.Meaning.{setting_of}
use Rattle.cert_rules.specs.Meaning.{step_of}
use Rattle.list_check.specs.Nodes.{IsTreeOf}
use Rattle.list_check.proofs.nodes.tree_nodes.Given as goal

abbrev pub invariant-loop-step : goal.invariant-loop-step
invariant-loop-step l = IsTreeOf (setting_of l.field) (take l.step-index (map step_of l.steps)) l.nodes.items
