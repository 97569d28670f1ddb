use Rattle.std.proofs.Common.{◌≡◌}
use Rattle.path_graph.specs.First.{EachBelow}
use Rattle.cert_check.specs.Lists.{trie_at}
use Rattle.cert_check.proofs.list.are_in_order.Given as goal

abbrev pub invariant-loop-g : goal.invariant-loop-g
invariant-loop-g l = EachBelow l.g (λ k. (trie_at l.tries k).graph ≡ k)
