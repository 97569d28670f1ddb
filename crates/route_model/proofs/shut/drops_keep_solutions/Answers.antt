use Rattle.route_model.proofs.PlaceLemmas.{drop_law, keeps_law}
use Rattle.route_model.proofs.shut.drops_keep_solutions.Goals as goal

pub returns-clause-drops : goal.returns-clause-drops
returns-clause-drops c = drop_law

pub returns-clause-solutions : goal.returns-clause-solutions
returns-clause-solutions c = keeps_law
