use Rattle.proof_rules.proofs.PlaceLemmas.{walk_admitted, walk_elementary}
use Rattle.proof_rules.proofs.places.walks_are_admitted.Goals as goal

pub returns-clause-elementary : goal.returns-clause-elementary
returns-clause-elementary c = walk_elementary

pub returns-clause-admitted : goal.returns-clause-admitted
returns-clause-admitted c = walk_admitted
