use Rattle.label_rules.proofs.LabelLemmas.{cut_point}
use Rattle.label_rules.proofs.joins.walks_are_cut_anywhere.Goals as goal

pub returns : goal.returns
returns c = cut_point
