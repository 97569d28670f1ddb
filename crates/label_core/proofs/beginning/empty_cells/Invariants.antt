use Rattle.std.proofs.Common.{◌≡◌, [], replicate}
use Rattle.label_core.proofs.beginning.empty_cells.Given as goal

abbrev pub invariant-loop : goal.invariant-loop
invariant-loop g l = l.cells.items ≡ replicate l.counter []
