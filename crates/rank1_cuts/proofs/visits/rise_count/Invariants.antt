use Rattle.std.proofs.Common.{◌≡◌, ◌+◌, ◌<◌, ◌≤◌, drop}
use Rattle.rank1_cuts.specs.Visits.{coef_of, rises_from}
use Rattle.rank1_cuts.proofs.visits.rise_count.Given as goal

-- what is counted, and what the rest of the visits adds
abbrev pub invariant-loop-set : goal.invariant-loop-set
invariant-loop-set l = record {
  state : l.state < l.cut.den;
  bound : l.coef ≤ l.set-index;
  counted : l.coef + rises_from l.cut l.state (drop l.set-index l.sets) ≡ coef_of l.cut l.sets;
}
