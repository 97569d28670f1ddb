use Rattle.std.proofs.Common.{All}
use Rattle.column_rounds.specs.Walks.{IsWalkIn}
use Rattle.column_rounds.proofs.shown.walks_of.Given as goal

abbrev pub invariant-loop-graph : goal.invariant-loop-graph
invariant-loop-graph l = All (IsWalkIn l.task.model.now) l.walks.items
