use Rattle.route_tasks.specs.ModelOf.{vertex_of}
use Rattle.route_tasks.proofs.RangeLemmas.{pushed_from_zero}
use Rattle.route_tasks.proofs.graphs.vertices.Goals as goal

pub loop-v-preserved : goal.loop-v-preserved
loop-v-preserved c = pushed_from_zero (vertex_of c.args.task.now) c.loop-v.vertices c.push.new.self c.loop-v.v c.vertex.result c.loop-v.invariant c.in_ok-push.ensures.ok c.vertex.ensures
