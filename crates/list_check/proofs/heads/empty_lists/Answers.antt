use Rattle.std.proofs.Common.{[], ℕ, sym, arith}
use Rattle.std.proofs.lemmas.List.FromFn.{map-range_with_len_more}
use Rattle.list_check.proofs.heads.empty_lists.Goals as goal

pub loop-preserved : goal.loop-preserved
loop-preserved c = rw (c.in_ok-push.ensures.items, c.new.ensures, c.loop.invariant) (sym (map-range_with_len_more (λ (v : ℕ). []) 0 c.loop.counter c.loop.counter (omega arith)))
