use Rattle.std.proofs.Common.{ℕ, ◌<◌}
use Rattle.rank1_cuts.specs.Fit.{HasNumerator}
use Rattle.rank1_cuts.proofs.fit.first_bad_numerator.Given as goal

-- each numerator before the place is one
abbrev pub invariant-loop-place : goal.invariant-loop-place
invariant-loop-place l = (k : ℕ) → k < l.place → HasNumerator l.den l.sets k
