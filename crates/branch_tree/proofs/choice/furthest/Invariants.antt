use Rattle.branch_tree.proofs.ChoiceLemmas.{IsBest}
use Rattle.branch_tree.proofs.choice.furthest.Given as goal

abbrev pub invariant-loop-place : goal.invariant-loop-place
invariant-loop-place l = IsBest l.spans l.place l.best
