use Rattle.label_rules.proofs.HalfPairLemmas.{half_pair_law}
use Rattle.label_rules.proofs.tables.half_pairs_represent.Goals as goal

pub returns : goal.returns
returns c = half_pair_law
