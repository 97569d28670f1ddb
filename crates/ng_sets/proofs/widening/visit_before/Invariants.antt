use Rattle.std.proofs.Common.{◌≢◌, ℕ, ◌<◌}
use Rattle.std.specs.Prelude.{Some}
use Rattle.ng_sets.specs.Widening.{set_visited}
use Rattle.ng_sets.proofs.widening.visit_before.Given as goal

-- no visit so far is to the set
abbrev pub invariant-loop-from : goal.invariant-loop-from
invariant-loop-from l = (i : ℕ) → i < l.from → set_visited l.graph l.arcs i ≢ Some l.found.set
