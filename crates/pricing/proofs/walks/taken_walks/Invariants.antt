use Rattle.std.proofs.Common.{take}
use Rattle.std.specs.List.{AllZip}
use Rattle.pricing.specs.Cheap.{IsTakenFrom}
use Rattle.pricing.proofs.walks.taken_walks.Given as goal

abbrev pub invariant-loop-rank : goal.invariant-loop-rank
invariant-loop-rank l = AllZip (IsTakenFrom l.graph l.number l.made.cells) (take l.rank-index l.ranked) l.walks
