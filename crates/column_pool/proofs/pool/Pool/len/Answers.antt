use Rattle.std.proofs.Common.{subst}
use Rattle.column_pool.specs.Walks.{AreDistinct, PoolParts}
use Rattle.column_pool.proofs.IndexLemmas.{index_distinct}
use Rattle.column_pool.proofs.pool.Pool.len.Goals as goal

pub returns-clause-distinct : goal.returns-clause-distinct
returns-clause-distinct c =
    subst (λ (pool : PoolParts). AreDistinct pool.walks) c.self.view_is (index_distinct _ c.self.inside.walks.items c.self.invariant.index)
