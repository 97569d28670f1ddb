use Rattle.std.proofs.Common.{◌≡◌, ◌+◌, ◌-◌, ap, ◌∙◌, arith}
use Rattle.vrp_demo.specs.Generated.{row_into, rows_over}
use Rattle.vrp_demo.proofs.PairLemmas.{item_more}
use Rattle.vrp_demo.proofs.rows.rows_over.Goals as goal

pub loop-customer-preserved : goal.loop-customer-preserved
loop-customer-preserved c =
    let arcs = c.args.graph.now.arcs in
    let v = c.loop-customer.customer in
    let at : 1 + (v - 1) ≡ v = omega arith in
    let next : v - 1 + 1 ≡ v + 1 - 1 = omega arith in
    item_more (row_into arcs) 1 (v - 1) v _ _ _ at c.loop-customer.invariant c.in_ok-row_into.ensures c.in_ok-push.ensures.ok
    ∙ ap (λ n. rows_over n arcs) next
