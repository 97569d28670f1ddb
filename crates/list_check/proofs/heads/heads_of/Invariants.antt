use Rattle.std.proofs.Common.{◌≡◌, map}
use Rattle.std.specs.List.{range_with_len}
use Rattle.path_graph.proofs.IndexLemmas.{rows_of}
use Rattle.list_check.specs.Heads.{label_at}
use Rattle.list_check.proofs.heads.heads_of.Given as goal

abbrev pub invariant-loop-k : goal.invariant-loop-k
invariant-loop-k l = l.lists.items ≡ map (rows_of (λ k. (label_at l.labels k).vertex) l.k) (range_with_len 0 l.count)
