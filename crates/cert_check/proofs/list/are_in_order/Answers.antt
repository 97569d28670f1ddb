use Rattle.std.proofs.Common.{◌≡◌, below_more, true, refl, arith}
use Rattle.cert_check.proofs.NameLemmas.{in_order, not_in_order, not_so_many}
use Rattle.cert_check.proofs.list.are_in_order.Goals as goal

pub loop-g-preserved : goal.loop-g-preserved
loop-g-preserved c = below_more _ _ c.loop-g.invariant (c.if-not-is_named.ensures.0 refl)

pub returns-then-tries-count : goal.returns-then-tries-count
returns-then-tries-count c = not_so_many c.args.tries.now c.args.count c.if-tries-count.true

pub returns-then-not-is_named : goal.returns-then-not-is_named
returns-then-not-is_named c =
    not_in_order c.args.tries.now c.args.count c.loop-g.g c.loop-g-test.true (λ e. let t : c.is_named.result ≡ true = c.is_named.ensures.1 e in cc)

pub returns : goal.returns
returns c = in_order c.args.tries.now c.args.count (omega arith) (λ k below. c.loop-g.invariant k (omega arith))
