use Rattle.std.proofs.Common.{◌≡◌, pos, refl, arith}
use Rattle.std.proofs.lemmas.List.Elements.{All-more}
use Rattle.route_model.specs.declared.places.Span.{Span}
use Rattle.cert_check.proofs.LoopLemmas.{all_seen}
use Rattle.cert_check.proofs.point.are_points.Goals as goal

pub loop-span-preserved : goal.loop-span-preserved
loop-span-preserved c =
    All-more (λ (box : Span). box.low ≡ box.high) c.args.boxes.now c.loop-span.span-index (record { low = pos 0; high = pos 0 }) c.loop-span-test.true c.loop-span.invariant (c.if-not-is_point.ensures.0 refl)

pub returns : goal.returns
returns c = all_seen (λ (box : Span). box.low ≡ box.high) c.args.boxes.now c.loop-span.span-index (omega arith) c.loop-span.invariant
