use Rattle.column_pool.specs.Walks.{IsPoolOf}
use Rattle.search_tests.proofs.pools.hand_chain.Given as goal

abbrev pub invariant-loop-i : goal.invariant-loop-i
invariant-loop-i g l = IsPoolOf l.model l.pool
