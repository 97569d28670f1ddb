use Rattle.column_rounds.specs.Columns.{AreColumnsOf}
use Rattle.solve_run.specs.Rounds.{IsWithin}
use Rattle.solve_run.specs.Work.{work_left}
use Rattle.solve_run.proofs.solving.search_on.Given as goal

abbrev pub invariant-rounds : goal.invariant-rounds
invariant-rounds l = IsWithin l.model l.limits l.search × AreColumnsOf l.model l.columns

abbrev pub decreases-rounds : goal.decreases-rounds
decreases-rounds l = work_left l.model l.limits.nodes l.search
