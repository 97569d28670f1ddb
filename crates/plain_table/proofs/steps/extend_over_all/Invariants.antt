use Rattle.std.proofs.Common.{◌≡◌, length}
use Rattle.plain_table.specs.Fillings.{IsExtending}
use Rattle.plain_table.proofs.steps.extend_over_all.Given as goal

abbrev pub invariant-loop-arc : goal.invariant-loop-arc
invariant-loop-arc g l = record {
  extending : IsExtending (g.S.Space.rules l.space) l.limit l.parent l.label l.fates.items l.filling;
  noted : length l.fates.items ≡ l.arc;
  next : l.filling.next ≡ l.initial.filling.next;
}
