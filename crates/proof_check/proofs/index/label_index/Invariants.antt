use Rattle.std.proofs.Common.{◌≡◌, map}
use Rattle.std.specs.List.{range_with_len}
use Rattle.path_graph.proofs.IndexLemmas.{rows_of}
use Rattle.proof_check.specs.Index.{label_at}
use Rattle.proof_check.proofs.index.label_index.Given as goal

abbrev pub invariant-loop-place : goal.invariant-loop-place
invariant-loop-place l = l.index.items ≡ map (rows_of (λ k. (label_at l.labels k).vertex) l.place) (range_with_len 0 l.count)
