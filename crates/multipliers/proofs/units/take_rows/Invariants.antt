use Rattle.std.proofs.Common.{◌≡◌, ◌-ℤ◌, ◌*ℤ◌, length}
use Rattle.path_graph.specs.Fit.{int_at}
use Rattle.path_graph.specs.Sums.{sum_below}
use Rattle.path_graph.specs.First.{EachBelow}
use Rattle.route_model.specs.Parts.{row_at}
use Rattle.multipliers.specs.Priced.{coef_in}
use Rattle.multipliers.proofs.units.take_rows.Given as goal

abbrev pub invariant-loop-i : goal.invariant-loop-i
invariant-loop-i l =
    EachBelow (length l.initial.units)
    (λ j. int_at l.units j ≡ int_at l.initial.units j -ℤ sum_below l.i (λ i. int_at l.mults i *ℤ coef_in (row_at l.rows i).terms j))
