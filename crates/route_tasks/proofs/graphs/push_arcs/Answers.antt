use Rattle.std.proofs.Common.{◌≡◌, ℕ, ap, sym, ◌∙◌}
use Rattle.route_tasks.specs.Places.{customers}
use Rattle.route_tasks.specs.ModelOf.{arc_of, is_head}
use Rattle.route_tasks.proofs.RangeLemmas.{pushed_kept, pushed_none}
use Rattle.route_tasks.proofs.graphs.push_arcs.Goals as goal
use Rattle.route_tasks.proofs.graphs.push_arcs.Goals.{then-leads+in_ok-push, else-leads}

pub loop-head-preserved : goal.loop-head-preserved
loop-head-preserved c =
    let task = c.args.task.now in
    let tail : ℕ = c.args.tail in
    let head : ℕ = c.loop-head.head in
    let test = is_head (customers task) tail in
    let told : c.leads.result ≡ is_head (customers task) tail head = c.leads.ensures ∙ ap (λ (n : ℕ). is_head n tail head) c.customer_count.ensures.count in
    elim c.if-leads.branch [
      | then-leads+in_ok-push w ↦
          pushed_kept (arc_of task tail) test c.args.arcs.now c.loop-head.arcs c.if-leads.arcs 1 head w.arc.result c.loop-head.auto.head (sym told ∙ w.if-leads.true)
          c.loop-head.invariant (w.arcs-is ∙ w.in_ok-push.ensures.ok) w.arc.ensures
      | else-leads w ↦
          w.arcs-is ∙ pushed_none (arc_of task tail) test c.args.arcs.now c.loop-head.arcs 1 head c.loop-head.auto.head (sym told ∙ w.if-leads.false) c.loop-head.invariant
    ]
