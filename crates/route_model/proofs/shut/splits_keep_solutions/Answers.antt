use Rattle.route_model.proofs.PlaceLemmas.{split_law, parts_law}
use Rattle.route_model.proofs.shut.splits_keep_solutions.Goals as goal

pub returns-clause-solutions : goal.returns-clause-solutions
returns-clause-solutions c = split_law

pub returns-clause-places : goal.returns-clause-places
returns-clause-places c = parts_law
