use Rattle.std.proofs.Common.{ℕ, ◌≡◌, ◌+◌, ◌<◌, ◌==◌, take, length}
use Rattle.std.specs.Prelude.{count_by, slice_index}
use Rattle.column_pool.proofs.counts.count_each.Given as goal

abbrev pub invariant-loop-var : goal.invariant-loop-var
invariant-loop-var l =
    (length l.counts ≡ length l.initial.counts)
    × ((j : ℕ) → j < length l.initial.counts → slice_index l.counts j ≡ slice_index l.initial.counts j + count_by (λ i. i == j) (take l.var-index l.vars))
