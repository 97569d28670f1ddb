use Rattle.std.proofs.Common.{ℕ, pos, rules}
use Rattle.column_pool.proofs.EntryLemmas.{entries_told}
use Rattle.column_pool.proofs.entries.push_counts.Goals as goal

pub loop-k-preserved : goal.loop-k-preserved
loop-k-preserved c =
    entries_told (λ (n : ℕ). pos n) _ _ _ c.args.from c.loop-k.k c.args.counts.now 0 c.from.result c.loop-k-test.true (search rules) c.loop-k.invariant c.in_ok-push_entry.ensures (search rules)
