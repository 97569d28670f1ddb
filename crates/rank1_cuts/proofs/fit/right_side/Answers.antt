use Rattle.rank1_cuts.proofs.SolutionLemmas.{solution_keeps}
use Rattle.rank1_cuts.proofs.fit.right_side.Goals as goal

pub returns-clause-kept : goal.returns-clause-kept
returns-clause-kept c walks once = rw (c.from.ensures, c.numerator_sum.ensures, c.as_slice.ensures) (solution_keeps c.args.cut.now walks c.requires once)
