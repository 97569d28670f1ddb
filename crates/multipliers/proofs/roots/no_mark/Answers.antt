use Rattle.std.proofs.Common.{arith, ◌<◌, length}
use Rattle.multipliers.proofs.RootLemmas.{marks_more}
use Rattle.multipliers.proofs.roots.no_mark.Goals as goal

pub loop-preserved : goal.loop-preserved
loop-preserved c =
    let below : c.loop.counter < length c.args.graph.now.arcs = omega arith in
    marks_more c.args.graph.now.arcs c.loop.counter c.loop.marks.items c.push.new.self.items below c.loop.invariant c.in_ok-push.ensures.items
