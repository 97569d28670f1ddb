use Rattle.multipliers.proofs.CutLemmas.{cut_kept}
use Rattle.multipliers.proofs.pricing.solutions_keep_cuts.Goals as goal

pub returns : goal.returns
returns c = cut_kept
