use Rattle.label_rules.specs.Labels.{Forward}
use Rattle.route_labels.specs.Meaning.{setting_of}
use Rattle.route_labels.proofs.ExtensionLemmas.{lies_there}
use Rattle.route_labels.proofs.forward.ForwardSpace.level.Goals as goal

pub level-requires-clause-value : goal.level-requires-clause-value
level-requires-clause-value c = lies_there Forward (setting_of c.args.self.now.field) c.args.l.now c.graph_of.result.now c.graph_of.ensures c.requires
