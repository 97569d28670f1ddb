use Rattle.std.proofs.Common.{◌≡◌, ℕ, ◌<◌, All, false}
use Rattle.route_model.specs.Parts.{taken_at}
use Rattle.route_model.specs.Places.{is_dropped}
use Rattle.cert_check.proofs.point.are_kept.Given as goal

abbrev pub invariant-loop-taken : goal.invariant-loop-taken
invariant-loop-taken l = (k : ℕ) → k < l.taken-index → All (λ a. is_dropped l.spot (taken_at l.plan.paths k).graph a ≡ false) (taken_at l.plan.paths k).arcs
