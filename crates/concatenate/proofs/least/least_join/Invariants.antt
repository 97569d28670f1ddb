use Rattle.route_labels.specs.Meaning.{setting_of}
use Rattle.concatenate.specs.Costs.{IsCostBelow, IsLeastWith}
use Rattle.concatenate.proofs.least.least_join.Given as goal

abbrev pub invariant-loop-arc : goal.invariant-loop-arc
invariant-loop-arc l = IsLeastWith (IsCostBelow (setting_of l.field) l.fore l.back l.arc) l.least
