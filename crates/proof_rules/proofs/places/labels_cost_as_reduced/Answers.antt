use Rattle.proof_rules.proofs.PlaceLemmas.{reduced_is}
use Rattle.proof_rules.proofs.places.labels_cost_as_reduced.Goals as goal

pub returns : goal.returns
returns c = reduced_is
