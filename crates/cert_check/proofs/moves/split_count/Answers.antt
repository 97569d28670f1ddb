use Rattle.std.proofs.Common.{List, ◌≡◌, ◌∷◌, [], ◌++◌, ap, ◌∙◌, to_z, of_z, w64, rules}
use Rattle.std.specs.Prelude.{slice_set}
use Rattle.std.proofs.lemmas.Int.{to_z-of_z}
use Rattle.route_model.specs.declared.places.Span.{Span}
use Rattle.route_model.specs.Places.{span_at}
use Rattle.cert_check.specs.declared.stack.Frame.{Frame}
use Rattle.cert_check.proofs.StackLemmas.{count_opens, low_is, upper_count_is}
use Rattle.cert_check.proofs.moves.split_count.Goals as goal

pub returns : goal.returns
returns c =
    let t = c.args.tree.now in
    let at : to_z w64 (of_z w64 c.args.at) ≡ c.args.at = to_z-of_z w64 c.args.at (search rules) in
    let span = c.span_of-span.ensures ∙ ap (λ (spans : List Span). span_at spans c.args.walk) c.as_slice.ensures in
    count_opens t.spot t.walks t.boxes c.put_span.new.spans c.args.walk c.args.at t.frames c.push.new.self
    (c.in_ok-push.ensures.ok ∙ ap (λ (f : Frame). t.frames ++ f ∷ []) (upper_count_is c.args.walk _ _ _ _ _ span c.high_of-part.ensures at))
    (c.put_span.ensures ∙ ap (slice_set t.boxes c.args.walk) (low_is _ _ _ _ _ span c.low_of.ensures at))
