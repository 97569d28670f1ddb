use Rattle.std.proofs.Common.{◌≡◌, ◌++◌, take}
use Rattle.pricing.specs.Ranks.{cheap_in}
use Rattle.pricing.proofs.ranking.push_cheap.Given as goal

abbrev pub invariant-loop-index : goal.invariant-loop-index
invariant-loop-index l = l.ranked.items ≡ l.initial.ranked.items ++ cheap_in l.sink l.cell 0 (take l.index l.entries)
