use Rattle.std.proofs.lemmas.Bool.Decides.{same_from_decides}
use Rattle.label_rules.specs.Labels.{Forward}
use Rattle.label_rules.specs.Spaces.{dominates}
use Rattle.label_rules.proofs.TestLemmas.{dominates_decides}
use Rattle.route_labels.specs.Meaning.{setting_of}
use Rattle.route_labels.proofs.ExtensionLemmas.{cost_near}
use Rattle.route_labels.proofs.forward.ForwardSpace.dominates.Goals as goal

pub dominates_forward-requires-clause-cost : goal.dominates_forward-requires-clause-cost
dominates_forward-requires-clause-cost c = cost_near Forward (setting_of c.args.self.now.field) c.args.a.now c.args.self.now.agree.setting c.requires.first

pub returns : goal.returns
returns c =
    let S = setting_of c.args.self.now.field in
    same_from_decides c.dominates_forward.result (dominates Forward S c.args.a.now c.args.b.now) c.dominates_forward.ensures (dominates_decides Forward S c.args.a.now c.args.b.now)
