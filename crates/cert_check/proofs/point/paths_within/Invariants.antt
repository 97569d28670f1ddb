use Rattle.std.proofs.Common.{ℕ, ◌<◌, pos}
use Rattle.route_model.specs.Places.{IsInSpan, span_at}
use Rattle.route_model.specs.Quantities.{paths_of}
use Rattle.cert_check.proofs.point.paths_within.Given as goal

abbrev pub invariant-loop-g : goal.invariant-loop-g
invariant-loop-g l = (k : ℕ) → k < l.g → IsInSpan (span_at l.spot.boxes.paths k) (pos (paths_of l.plan k))
