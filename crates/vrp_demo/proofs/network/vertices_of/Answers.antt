use Rattle.std.proofs.Common.{arith}
use Rattle.vrp_demo.specs.Network.{vertex_of}
use Rattle.vrp_demo.proofs.PairLemmas.{item_more}
use Rattle.vrp_demo.proofs.network.vertices_of.Goals as goal

pub loop-v-preserved : goal.loop-v-preserved
loop-v-preserved c =
    item_more (vertex_of c.args.size) 0 c.loop-v.v c.loop-v.v _ _ _ (omega arith) c.loop-v.invariant c.vertex_of.ensures c.in_ok-push.ensures.ok
