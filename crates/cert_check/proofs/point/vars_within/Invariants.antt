use Rattle.std.proofs.Common.{ℕ, ◌<◌, pos}
use Rattle.route_model.specs.Places.{IsInSpan, span_at}
use Rattle.route_model.specs.Quantities.{value_of}
use Rattle.cert_check.proofs.point.vars_within.Given as goal

abbrev pub invariant-loop-j : goal.invariant-loop-j
invariant-loop-j l = (k : ℕ) → k < l.j → IsInSpan (span_at l.spot.boxes.vars k) (pos (value_of l.model l.plan k))
