use Rattle.std.proofs.Common.{ℕ, ◌≡◌, ◌<◌, take, length}
use Rattle.std.specs.Prelude.{slice_index}
use Rattle.path_graph.specs.Visits.{visit_count}
use Rattle.column_pool.proofs.counts.set_counts.Given as goal

abbrev pub invariant-loop-visit : goal.invariant-loop-visit
invariant-loop-visit l =
    (length l.counts.items ≡ l.count) × ((s : ℕ) → s < l.count → slice_index l.counts.items s ≡ visit_count s (take l.visit-index l.visits))
