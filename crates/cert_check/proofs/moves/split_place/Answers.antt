use Rattle.std.proofs.Common.{◌≡◌, ◌∷◌, [], ◌++◌, ap, ◌∙◌, to_z, of_z, w64, rules}
use Rattle.std.proofs.lemmas.Int.{to_z-of_z}
use Rattle.route_model.specs.PlaceParts.{with_box}
use Rattle.cert_check.specs.declared.stack.Frame.{Frame}
use Rattle.cert_check.proofs.StackLemmas.{low_is, split_opens, upper_is}
use Rattle.cert_check.proofs.moves.split_place.Goals as goal

pub returns : goal.returns
returns c =
    let t = c.args.tree.now in
    let s = c.args.split.now in
    let at : to_z w64 (of_z w64 s.at) ≡ s.at = to_z-of_z w64 s.at (search rules) in
    split_opens t.spot c.put_box.new.spot t.walks t.boxes s.quantity s.at t.frames c.push.new.self
    (c.in_ok-push.ensures.ok ∙ ap (λ (f : Frame). t.frames ++ f ∷ []) (upper_is s.quantity _ _ _ _ _ c.box_of-span.ensures c.high_of-part.ensures at))
    (c.put_box.ensures ∙ ap (with_box t.spot s.quantity) (low_is _ _ _ _ _ c.box_of-span.ensures c.low_of.ensures at))
