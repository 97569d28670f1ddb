use Rattle.std.proofs.Common.{◌≡◌, ◌++◌, map, take, drop, length}
use Rattle.label_core.specs.Puts.{beside, EachFits}
use Rattle.label_core.proofs.marks.mark_dominated.Given as goal

abbrev pub invariant-loop-i : goal.invariant-loop-i
invariant-loop-i g l = record {
  marked : l.entries ≡ map (beside (g.S.Space.rules l.space) l.label l.at) (take l.i l.initial.entries) ++ drop l.i l.initial.entries;
  long : length l.entries ≡ length l.initial.entries;
  fit : EachFits (g.S.Space.rules l.space) l.entries;
}
