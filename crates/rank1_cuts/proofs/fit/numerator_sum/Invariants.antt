use Rattle.std.proofs.Common.{◌≡◌, ◌*◌, ◌≤◌, take}
use Rattle.std.specs.Prelude.{sum_by}
use Rattle.rank1_cuts.proofs.fit.numerator_sum.Given as goal

-- the sum of the numerators so far, each of one byte
abbrev pub invariant-loop-each : goal.invariant-loop-each
invariant-loop-each l = (l.sum ≡ sum_by (λ each. each.num) (take l.each-index l.sets)) × (l.sum ≤ l.each-index * 255)
