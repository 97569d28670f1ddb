use Rattle.std.proofs.Common.{ℕ, ◌<◌, ◌+◌, length, slice_index_or}
use Rattle.route_model.specs.declared.parts.RowTerm.{RowTerm}
use Rattle.route_model.proofs.fit.terms_ascend.Given as goal

abbrev pub invariant-loop-place : goal.invariant-loop-place
invariant-loop-place l = (k : ℕ) (d : RowTerm) → k + 1 < l.place → k + 1 < length l.terms → (slice_index_or l.terms k d).var < (slice_index_or l.terms (k + 1) d).var
