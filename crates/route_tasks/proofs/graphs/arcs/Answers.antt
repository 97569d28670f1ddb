use Rattle.route_tasks.specs.ModelOf.{arcs_at}
use Rattle.route_tasks.proofs.RangeLemmas.{joined_more}
use Rattle.route_tasks.proofs.graphs.arcs.Goals as goal

pub loop-tail-preserved : goal.loop-tail-preserved
loop-tail-preserved c =
    joined_more (arcs_at c.args.task.now) c.loop-tail.arcs c.push_arcs.new.arcs c.loop-tail.tail c.loop-tail.invariant c.in_ok-push_arcs.ensures
