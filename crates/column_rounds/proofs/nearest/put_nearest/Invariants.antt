use Rattle.ng_sets.specs.Near.{HasShape}
use Rattle.column_rounds.proofs.nearest.put_nearest.Given as goal

abbrev pub invariant-loop-g : goal.invariant-loop-g
invariant-loop-g l = HasShape l.initial.near l.near

abbrev pub invariant-loop-v : goal.invariant-loop-v
invariant-loop-v l = HasShape l.fn.near l.near
