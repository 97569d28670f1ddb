use Rattle.route_tasks.proofs.SolveLemmas.{routes_solve}
use Rattle.route_tasks.proofs.laws.routes_have_solutions.Goals as goal

pub returns : goal.returns
returns c = routes_solve
