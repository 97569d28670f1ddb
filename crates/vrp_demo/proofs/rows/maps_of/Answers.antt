use Rattle.std.proofs.Common.{ℕ, [], ◌∷◌, arith}
use Rattle.vrp_demo.proofs.PairLemmas.{item_more}
use Rattle.vrp_demo.proofs.rows.maps_of.Goals as goal

pub loop-arc-preserved : goal.loop-arc-preserved
loop-arc-preserved c =
    item_more (λ (k : ℕ). k ∷ []) 0 c.loop-arc.arc c.loop-arc.arc _ _ _ (omega arith) c.loop-arc.invariant c.in_ok-lone.ensures c.in_ok-push.ensures.ok
