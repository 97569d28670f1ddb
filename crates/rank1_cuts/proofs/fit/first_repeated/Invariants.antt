use Rattle.std.proofs.Common.{ℕ, ◌<◌}
use Rattle.rank1_cuts.specs.Fit.{IsRepeated}
use Rattle.rank1_cuts.proofs.fit.first_repeated.Given as goal

-- no set before the place is repeated
abbrev pub invariant-loop-place : goal.invariant-loop-place
invariant-loop-place l = (k : ℕ) → k < l.place → ¬ (IsRepeated l.sets k)
