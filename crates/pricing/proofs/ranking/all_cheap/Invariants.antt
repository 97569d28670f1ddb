use Rattle.std.proofs.Common.{◌≡◌, take}
use Rattle.pricing.specs.Ranks.{cheap_from}
use Rattle.pricing.proofs.ranking.all_cheap.Given as goal

abbrev pub invariant-loop-cell : goal.invariant-loop-cell
invariant-loop-cell l = l.ranked.items ≡ cheap_from l.sink 0 (take l.cell l.made.cells)
