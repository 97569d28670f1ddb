use Rattle.solve_run.proofs.ChosenLemmas.{LeastBelow}
use Rattle.solve_run.proofs.choosing.least_open.Given as goal

abbrev pub invariant-loop-at : goal.invariant-loop-at
invariant-loop-at l = LeastBelow l.slots l.at l.least
