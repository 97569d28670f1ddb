use Rattle.std.proofs.Common.{take}
use Rattle.label_core.specs.Steps.{MarksAll}
use Rattle.label_core.specs.Rule.{IsRuled}
use Rattle.label_core.proofs.mark_events.make_marks.Given as goal

abbrev pub invariant-loop-i : goal.invariant-loop-i
invariant-loop-i g l =
    record {
      made : MarksAll (g.S.Space.rules l.space) l.fn.core l.p l.c (take l.i l.marks) l.made;
      rule : IsRuled (g.S.Space.rules l.space) l.made;
    }
