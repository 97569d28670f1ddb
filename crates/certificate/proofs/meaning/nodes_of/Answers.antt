use Rattle.certificate.proofs.SizesLemmas.{nodes_more}
use Rattle.certificate.proofs.meaning.nodes_of.Goals as goal

pub loop-draft-preserved : goal.loop-draft-preserved
loop-draft-preserved c =
    let more = nodes_more c.args.sizes.now c.args.lines.now c.loop-draft.left c.pop.new.self c.in-Some.draft c.loop-draft.nodes.items _ c.loop-draft.invariant c.in-Some.ensures in
    rw (c.in_ok-push.ensures.items, c.in_ok-form.ensures, c.number_at-line.ensures, c.len.ensures) more
