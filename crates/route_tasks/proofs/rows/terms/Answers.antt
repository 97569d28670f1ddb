use Rattle.std.proofs.Common.{ℕ}
use Rattle.route_tasks.specs.Places.{other}
use Rattle.route_tasks.specs.ModelOf.{term_of}
use Rattle.route_tasks.proofs.RangeLemmas.{pushed_from_zero}
use Rattle.route_tasks.proofs.rows.terms.Goals as goal

pub loop-k-preserved : goal.loop-k-preserved
loop-k-preserved c =
    let n : ℕ = c.args.n in
    let i : ℕ = c.args.i in
    pushed_from_zero (λ (k : ℕ). term_of n i (other i k)) c.loop-k.terms c.push.new.self c.loop-k.k c.term.result c.loop-k.invariant c.in_ok-push.ensures.ok c.term.ensures
