use Rattle.column_rounds.specs.Columns.{AreColumnsOf}
use Rattle.column_rounds.specs.Rounds.{IsStateFrom}
use Rattle.column_rounds.proofs.rounds.find_columns.Given as goal

abbrev pub invariant-rounds : goal.invariant-rounds
invariant-rounds l = record {
  columns : AreColumnsOf l.model l.columns;
  state : IsStateFrom l.model l.z l.state;
}
