use Rattle.std.proofs.Common.{◌∷◌, reverse, ap, ◌∙◌}
use Rattle.cert_check.specs.declared.stack.Frame.{Frame}
use Rattle.cert_check.specs.Frames.{open_below}
use Rattle.cert_check.proofs.StackLemmas.{upper_counts, upper_opens}
use Rattle.cert_check.proofs.moves.resume.Goals as goal

pub returns-in_ok-push-in-Upper : goal.returns-in_ok-push-in-Upper
returns-in_ok-push-in-Upper c =
    let t = c.args.tree.now in
    ap (λ (f : Frame). open_below t.spot t.walks t.boxes (f ∷ reverse t.frames)) c.in-Upper.is
    ∙ upper_opens t.spot c.put_box.new.spot t.walks t.boxes c.in-Upper.quantity c.in-Upper.span c.in-Upper.part t.frames c.push.new.self c.in_ok-push-in-Upper.ensures.ok c.put_box.ensures

pub returns-in_ok-push-in-UpperCount : goal.returns-in_ok-push-in-UpperCount
returns-in_ok-push-in-UpperCount c =
    let t = c.args.tree.now in
    ap (λ (f : Frame). open_below t.spot t.walks t.boxes (f ∷ reverse t.frames)) c.in-UpperCount.is
    ∙ upper_counts t.spot t.walks t.boxes c.put_span.new.spans c.in-UpperCount.walk c.in-UpperCount.span c.in-UpperCount.part t.frames c.push-in-UpperCount.new.self c.in_ok-push-in-UpperCount.ensures.ok c.put_span.ensures
