use Rattle.std.proofs.Common.{take}
use Rattle.route_labels.specs.Meaning.{setting_of}
use Rattle.concatenate.specs.Costs.{IsCostOver, IsLeastWith}
use Rattle.concatenate.proofs.least.least_among.Given as goal

abbrev pub invariant-loop-f : goal.invariant-loop-f
invariant-loop-f l = IsLeastWith (IsCostOver (setting_of l.field) (take l.f-index l.fore) l.back l.arc) l.least
