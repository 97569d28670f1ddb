use Rattle.std.proofs.Common.{◌*◌, ◌*ℤ◌, pos}
use Rattle.std.specs.Prelude.{slice_index}
use Rattle.path_graph.proofs.SumLemmas.{IsSumWithin}
use Rattle.route_model.specs.Parts.{var_at}
use Rattle.column_pool.proofs.amounts.cost_sum.Given as goal

abbrev pub invariant-loop-j : goal.invariant-loop-j
invariant-loop-j l = IsSumWithin l.j (λ j. (var_at l.vars j).cost *ℤ pos (slice_index l.uses j)) (l.j * (1000000000 * 16777216)) l.total
