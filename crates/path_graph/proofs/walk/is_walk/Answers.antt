use Rattle.path_graph.proofs.WalkLemmas.{stands_next}
use Rattle.std.proofs.Common.{arith, refl}
use Rattle.path_graph.proofs.walk.is_walk.Goals as goal

pub loop-a-preserved : goal.loop-a-preserved
loop-a-preserved c =
    stands_next c.args.g.now c.loop-a.place c.loop-a.value c.args.arcs.now c.loop-a.a-index _ c.arc-arc.result c.in-Some.next c.arc-arc.ensures.fits (omega arith) refl c.loop-a.invariant c.arc-arc.ensures.arc (omega arith) (omega arith) c.in-Some.ensures.exact.0 c.in-Some.ensures.exact.1 c.in-Some.ensures.in_windows
