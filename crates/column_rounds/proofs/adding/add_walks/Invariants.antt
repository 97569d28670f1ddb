use Rattle.column_rounds.specs.Columns.{AreColumnsOf}
use Rattle.column_rounds.proofs.adding.add_walks.Given as goal

abbrev pub invariant-loop-walk : goal.invariant-loop-walk
invariant-loop-walk l = AreColumnsOf l.model l.columns
