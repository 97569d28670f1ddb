use Rattle.std.proofs.Common.{◌≡◌, ℕ, ◌<◌}
use Rattle.rank1_cuts.specs.Fit.{item_at}
use Rattle.rank1_cuts.proofs.fit.stands_before.Given as goal

-- the set stands at no place before k
abbrev pub invariant-loop-k : goal.invariant-loop-k
invariant-loop-k l = (j : ℕ) → j < l.k → ¬ ((item_at l.sets j).set ≡ l.set)
