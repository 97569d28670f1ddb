use Rattle.std.proofs.Common.{take}
use Rattle.route_labels.specs.Meaning.{setting_of}
use Rattle.concatenate.specs.Costs.{IsCostWith, IsLeastWith}
use Rattle.concatenate.proofs.least.least_with.Given as goal

abbrev pub invariant-loop-b : goal.invariant-loop-b
invariant-loop-b l = IsLeastWith (IsCostWith (setting_of l.field) l.f l.arc (take l.b-index l.back)) l.least
