use Rattle.std.proofs.lemmas.Bool.Decides.{same_from_decides}
use Rattle.label_rules.specs.Labels.{Backward}
use Rattle.label_rules.specs.Spaces.{dominates}
use Rattle.label_rules.proofs.TestLemmas.{dominates_decides}
use Rattle.route_labels.specs.Meaning.{setting_of}
use Rattle.route_labels.proofs.ExtensionLemmas.{cost_near}
use Rattle.route_labels.proofs.backward.BackwardSpace.dominates.Goals as goal

pub dominates_backward-requires-clause-cost : goal.dominates_backward-requires-clause-cost
dominates_backward-requires-clause-cost c = cost_near Backward (setting_of c.args.self.now.field) c.args.a.now c.args.self.now.agree.setting c.requires.first

pub returns : goal.returns
returns c =
    let S = setting_of c.args.self.now.field in
    same_from_decides c.dominates_backward.result (dominates Backward S c.args.a.now c.args.b.now) c.dominates_backward.ensures (dominates_decides Backward S c.args.a.now c.args.b.now)
