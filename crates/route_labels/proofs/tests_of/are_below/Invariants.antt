use Rattle.std.proofs.Common.{ℕ, ◌<◌, get_or}
use Rattle.multipliers.specs.Quantities.{cut_at}
use Rattle.route_labels.proofs.tests_of.are_below.Given as goal

abbrev pub invariant-loop-i : goal.invariant-loop-i
invariant-loop-i l = (k : ℕ) → k < l.i → get_or l.states k 0 < (cut_at l.cuts k).den
