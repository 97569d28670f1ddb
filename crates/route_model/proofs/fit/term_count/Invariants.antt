use Rattle.std.proofs.Common.{◌≡◌, ◌-◌, ◌^◌, min, length, take}
use Rattle.std.specs.Prelude.{sum_by}
use Rattle.route_model.proofs.fit.term_count.Given as goal

abbrev pub invariant-loop-row : goal.invariant-loop-row
invariant-loop-row l = l.count ≡ min (sum_by (λ row. length row.terms) (take l.row-index l.rows)) (2 ^ 64 - 1)
