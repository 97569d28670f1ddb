use Rattle.std.proofs.Common.{◌≡◌, ℕ, ◌<◌, sym, arith, subst, length, List}
use Rattle.path_graph.specs.declared.parts.GraphArc.{GraphArc}
use Rattle.path_graph.specs.Parts.{arc_at}
use Rattle.route_tasks.specs.declared.task.RouteTask.{RouteTask}
use Rattle.route_tasks.specs.ModelOf.{arcs_of}
use Rattle.route_tasks.proofs.ArcLemmas.{IsArc, arc_is}
use Rattle.route_tasks.proofs.graphs.maps.Goals as goal

here : (task : RouteTask) (arcs : List GraphArc) (a : ℕ) → arcs ≡ arcs_of task → a < length arcs → IsArc task (arc_at arcs a)
here task arcs a e = subst (λ (xs : List GraphArc). a < length xs → IsArc task (arc_at xs a)) (sym e) (arc_is task a)

pub mapped-requires-clause-from : goal.mapped-requires-clause-from
mapped-requires-clause-from c =
    let is = here c.args.task.now c.args.arcs.now c.loop-arc.arc-index c.requires.arcs_of_task c.loop-arc-test.true in
    let count = c.customer_count-n.ensures.count in
    omega (arith, is.from, count)

pub mapped-requires-clause-to : goal.mapped-requires-clause-to
mapped-requires-clause-to c =
    let is = here c.args.task.now c.args.arcs.now c.loop-arc.arc-index c.requires.arcs_of_task c.loop-arc-test.true in
    is.some

pub mapped-requires-clause-different : goal.mapped-requires-clause-different
mapped-requires-clause-different c =
    let is = here c.args.task.now c.args.arcs.now c.loop-arc.arc-index c.requires.arcs_of_task c.loop-arc-test.true in
    is.differ

pub mapped-requires-clause-not_both : goal.mapped-requires-clause-not_both
mapped-requires-clause-not_both c =
    let is = here c.args.task.now c.args.arcs.now c.loop-arc.arc-index c.requires.arcs_of_task c.loop-arc-test.true in
    let count = c.customer_count-n.ensures.count in
    λ source. let few = is.not_both source in omega (arith, few, count)
