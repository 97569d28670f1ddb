use Rattle.std.proofs.Common.{◌≡◌, [], All, length}
use Rattle.column_pool.specs.Index.{entries_of}
use Rattle.column_pool.proofs.index.empty_maps.Given as goal

abbrev pub invariant-loop : goal.invariant-loop
invariant-loop l = (length l.maps.items ≡ l.counter) × All (λ numbers. entries_of numbers ≡ []) l.maps.items
