use Rattle.std.proofs.Common.{◌≤◌, All, length}
use Rattle.route_model.specs.declared.plan.Taken.{Taken}
use Rattle.column_rounds.proofs.plans.rounded.Given as goal

abbrev pub invariant-loop-number : goal.invariant-loop-number
invariant-loop-number l = record {
  few : length l.paths ≤ 1000000;
  each : All (λ (t : Taken). t.count ≤ 4096) l.paths;
}
