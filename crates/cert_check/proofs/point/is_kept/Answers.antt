use Rattle.std.proofs.Common.{◌≡◌, ℕ, false, sym, ◌∙◌, arith}
use Rattle.std.proofs.lemmas.List.Elements.{All-more}
use Rattle.route_model.specs.Places.{is_dropped}
use Rattle.cert_check.proofs.LoopLemmas.{all_seen}
use Rattle.cert_check.proofs.point.is_kept.Goals as goal

pub loop-arc-preserved : goal.loop-arc-preserved
loop-arc-preserved c =
    All-more (λ (a : ℕ). is_dropped c.args.spot.now c.args.g a ≡ false) c.args.arcs.now c.loop-arc.arc-index 0 c.loop-arc-test.true c.loop-arc.invariant (sym c.has_mark.ensures ∙ c.if-has_mark.false)

pub returns : goal.returns
returns c = all_seen (λ (a : ℕ). is_dropped c.args.spot.now c.args.g a ≡ false) c.args.arcs.now c.loop-arc.arc-index (omega arith) c.loop-arc.invariant
