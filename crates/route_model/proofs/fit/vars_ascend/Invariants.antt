use Rattle.std.proofs.Common.{ℕ, ◌<◌, ◌+◌, length, slice_index_or}
use Rattle.route_model.proofs.fit.vars_ascend.Given as goal

abbrev pub invariant-loop-place : goal.invariant-loop-place
invariant-loop-place l = (k d : ℕ) → k + 1 < l.place → k + 1 < length l.vars → slice_index_or l.vars k d < slice_index_or l.vars (k + 1) d
