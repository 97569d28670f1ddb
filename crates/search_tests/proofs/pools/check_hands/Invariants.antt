use Rattle.column_pool.specs.Walks.{IsPoolOf}
use Rattle.search_tests.proofs.pools.check_hands.Given as goal

abbrev pub invariant-loop-row : goal.invariant-loop-row
invariant-loop-row g l = IsPoolOf l.model l.pool
