use Rattle.std.proofs.Common.{◌≡◌, map}
use Rattle.std.specs.List.{range_with_len}
use Rattle.route_tasks.specs.Places.{other}
use Rattle.route_tasks.specs.ModelOf.{term_of}
use Rattle.route_tasks.proofs.rows.terms.Given as goal

abbrev pub invariant-loop-k : goal.invariant-loop-k
invariant-loop-k l = l.terms ≡ map (λ k. term_of l.n l.i (other l.i k)) (range_with_len 0 l.k)
