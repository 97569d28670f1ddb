use Rattle.certificate.proofs.SizesLemmas.{drops_more}
use Rattle.certificate.proofs.meaning.drops_of.Goals as goal

pub loop-line-preserved : goal.loop-line-preserved
loop-line-preserved c =
    drops_more c.args.lines.now c.loop-line.line-index c.line-item.result _ c.loop-line.arcs c.push_arcs.new.arcs c.loop-line-test.true c.loop-line.invariant c.line-item.is (rw c.as_slice.ensures at c.in_ok-push_arcs.ensures)
