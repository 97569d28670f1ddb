use Rattle.std.proofs.Common.{◌-◌}
use Rattle.plain_table.specs.Fillings.{IsFilling}
use Rattle.plain_table.proofs.table.fill_from_root.Given as goal

abbrev pub invariant-loop-filling : goal.invariant-loop-filling
invariant-loop-filling g l = IsFilling (g.S.Space.rules l.space) l.limit l.filling

abbrev pub decreases-loop-filling : goal.decreases-loop-filling
decreases-loop-filling g l = l.limit - l.filling.next
