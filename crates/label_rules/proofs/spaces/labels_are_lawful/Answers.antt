use Rattle.label_rules.proofs.SpaceLemmas.{lawful}
use Rattle.label_rules.proofs.spaces.labels_are_lawful.Goals as goal

pub returns : goal.returns
returns c = lawful
