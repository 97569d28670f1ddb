use Rattle.std.proofs.Common.{take}
use Rattle.concatenate.specs.Costs.{IsLeastWith}
use Rattle.pricing.specs.Tables.{IsSinkCost}
use Rattle.pricing.proofs.sink.least_at.Given as goal

abbrev pub invariant-loop-label : goal.invariant-loop-label
invariant-loop-label l = IsLeastWith (IsSinkCost l.sink (take l.label-index l.labels)) l.least
