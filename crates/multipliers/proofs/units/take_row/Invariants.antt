use Rattle.std.proofs.Common.{◌≡◌, ◌-ℤ◌, ◌*ℤ◌, length}
use Rattle.path_graph.specs.Fit.{int_at}
use Rattle.path_graph.specs.First.{EachBelow}
use Rattle.multipliers.proofs.UnitLemmas.{coef_below}
use Rattle.multipliers.proofs.units.take_row.Given as goal

abbrev pub invariant-loop-term : goal.invariant-loop-term
invariant-loop-term l = EachBelow (length l.initial.units) (λ j. int_at l.units j ≡ int_at l.initial.units j -ℤ l.mult *ℤ coef_below l.terms l.term-index j)
