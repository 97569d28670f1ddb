use Rattle.std.proofs.Common.{◌≡◌, drop}
use Rattle.rank1_cuts.specs.Visits.{numerator_of}
use Rattle.rank1_cuts.proofs.visits.numerator.Given as goal

-- the set is not among those before
abbrev pub invariant-loop-each : goal.invariant-loop-each
invariant-loop-each l = numerator_of (drop l.each-index l.fn.cut.sets) l.set ≡ numerator_of l.fn.cut.sets l.set
