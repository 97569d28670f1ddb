use Rattle.std.proofs.Common.{ℕ, ◌≡◌, ◌<◌, take, length}
use Rattle.std.specs.Prelude.{count_by, slice_index}
use Rattle.route_model.specs.Quantities.{is_mapped}
use Rattle.column_pool.proofs.counts.uses_of.Given as goal

abbrev pub invariant-loop-arc : goal.invariant-loop-arc
invariant-loop-arc l =
    (length l.uses.items ≡ l.count) × ((j : ℕ) → j < l.count → slice_index l.uses.items j ≡ count_by (is_mapped l.maps j l.g) (take l.arc-index l.arcs))
