use Rattle.column_rounds.specs.Lines.{HasAllBelow}
use Rattle.column_rounds.proofs.lines.first_sets.Given as goal

abbrev pub invariant-loop-set : goal.invariant-loop-set
invariant-loop-set l = HasAllBelow l.set l.sets
