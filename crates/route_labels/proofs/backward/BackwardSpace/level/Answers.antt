use Rattle.label_rules.specs.Labels.{Backward}
use Rattle.route_labels.specs.Meaning.{setting_of}
use Rattle.route_labels.proofs.ExtensionLemmas.{lies_there}
use Rattle.route_labels.proofs.backward.BackwardSpace.level.Goals as goal

pub level-requires-clause-value : goal.level-requires-clause-value
level-requires-clause-value c = lies_there Backward (setting_of c.args.self.now.field) c.args.l.now c.graph_of.result.now c.graph_of.ensures c.requires
