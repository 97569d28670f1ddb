use Rattle.std.proofs.Common.{arith}
use Rattle.std.proofs.lemmas.Int.{ints}
use Rattle.multipliers.proofs.BaseLemmas.{five_small}
use Rattle.multipliers.proofs.pricing.total_of.Goals as goal

pub overflow_add-result-4 : goal.overflow_add-result-4
overflow_add-result-4 c = omega (arith, ints, c.requires.vars.0, c.requires.vars.1, c.requires.rows.0, c.requires.rows.1, c.requires.sets.0, c.requires.sets.1, c.requires.cuts.0, c.requires.cuts.1, c.requires.paths.0, c.requires.paths.1)

pub returns-clause-total : goal.returns-clause-total
returns-clause-total c = omega (arith, ints, c.requires.vars.0, c.requires.vars.1, c.requires.rows.0, c.requires.rows.1, c.requires.sets.0, c.requires.sets.1, c.requires.cuts.0, c.requires.cuts.1, c.requires.paths.0, c.requires.paths.1)

pub returns-clause-small : goal.returns-clause-small
returns-clause-small c = five_small _ c.args.vars c.args.rows c.args.sets c.args.cuts c.args.paths c.requires.vars c.requires.rows c.requires.sets c.requires.cuts c.requires.paths (returns-clause-total c)
