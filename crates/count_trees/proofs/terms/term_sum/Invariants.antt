use Rattle.std.proofs.Common.{take}
use Rattle.count_trees.proofs.TermLemmas.{AreTerms}
use Rattle.count_trees.proofs.terms.term_sum.Given as goal

abbrev pub invariant-loop-k : goal.invariant-loop-k
invariant-loop-k l = AreTerms (take l.k l.costs) (take l.k l.boxes) l.total
