use Rattle.std.proofs.Common.{List, ap, ◌∙◌}
use Rattle.route_model.specs.declared.places.Span.{Span}
use Rattle.route_model.specs.Places.{span_at}
use Rattle.place_nodes.proofs.ListLemmas.{boxes_all, boxes_more}
use Rattle.place_nodes.proofs.list.first_boxes.Goals as goal

pub loop-walk-preserved : goal.loop-walk-preserved
loop-walk-preserved c =
    let walk = c.walk-item.result in
    let high = c.first_box.ensures.high ∙ ap (λ (spans : List Span). (span_at spans walk.graph).high) c.as_slice.ensures in
    boxes_more c.args.spot.now c.args.walks.now c.loop-walk.walk-index walk c.loop-walk.boxes c.push.new.self c.first_box.result c.loop-walk-test.true c.walk-item.is c.loop-walk.invariant c.first_box.ensures.low high c.in_ok-push.ensures.ok

pub returns : goal.returns
returns c = boxes_all c.args.spot.now c.args.walks.now c.loop-walk.walk-index c.loop-walk.boxes c.loop-walk-test.false c.loop-walk.invariant
