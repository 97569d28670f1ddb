use Rattle.std.proofs.Common.{◌≡◌, ℕ, ◌<◌, ◌≤◌, ◌*◌, ◌^◌, pos, length, get_or}
use Rattle.rank1_cuts.specs.Visits.{state_after}
use Rattle.multipliers.specs.Quantities.{cut_at}
use Rattle.route_labels.specs.Arrival.{weight_risen}
use Rattle.route_labels.proofs.arrival.states_after.Given as goal

-- the states before i are those after the visit, and the others 0
abbrev pub invariant-loop-i : goal.invariant-loop-i
invariant-loop-i l = record {
  size : length l.next ≡ 64;
  each : (k : ℕ) → k < l.i → get_or l.next k 0 ≡ state_after (cut_at l.cuts k) (get_or l.states k 0) l.set;
  unused : (k : ℕ) → l.i ≤ k → get_or l.next k 0 ≡ 0;
  risen : pos l.risen ≡ weight_risen l.cuts l.y l.states l.set l.i;
  light : l.risen ≤ l.i * 2 ^ 48;
}
