use Rattle.std.proofs.Common.{rules, arith}
use Rattle.std.proofs.lemmas.Int.{ints}
use Rattle.count_trees.proofs.TermLemmas.{high_times}
use Rattle.count_trees.proofs.terms.count_term.Goals as goal

pub returns-clause-small : goal.returns-clause-small
returns-clause-small c =
    high_times c.args.cost c.times_paths-2.result c.args.span c.requires.cost c.requires.span (λ some. omega (arith, ints, some, c.if-cost-ge0.false)) c.ranges.cost (search rules) (search rules) c.times_paths-2.ensures
