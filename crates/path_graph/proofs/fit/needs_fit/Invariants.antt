use Rattle.std.proofs.Common.{ℕ, ◌<◌, nat_lt}
use Rattle.path_graph.specs.Fit.{is_used_at, NeedFits, int_at}
use Rattle.path_graph.proofs.fit.needs_fit.Given as goal

abbrev pub invariant-loop-place : goal.invariant-loop-place
invariant-loop-place l = (k : ℕ) → k < l.place → NeedFits (is_used_at l.ends k) (nat_lt k 2) (int_at l.needs k)
