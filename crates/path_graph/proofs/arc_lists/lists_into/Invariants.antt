use Rattle.std.proofs.Common.{◌≡◌, map}
use Rattle.std.specs.List.{range_with_len}
use Rattle.path_graph.specs.Parts.{arc_at}
use Rattle.path_graph.proofs.IndexLemmas.{rows_of}
use Rattle.path_graph.proofs.arc_lists.lists_into.Given as goal

abbrev pub invariant-loop-a : goal.invariant-loop-a
invariant-loop-a l = l.lists.items ≡ map (rows_of (λ a. (arc_at l.arcs a).head) l.a) (range_with_len 0 l.count)
