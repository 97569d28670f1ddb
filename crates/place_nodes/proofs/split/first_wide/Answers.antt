use Rattle.std.proofs.Common.{◌≡◌, pos, refl, subst}
use Rattle.std.proofs.lemmas.List.{take_all}
use Rattle.std.proofs.lemmas.List.Elements.{All-more}
use Rattle.route_model.specs.declared.places.Span.{Span}
use Rattle.proof_rules.specs.Nodes.{ArePoints}
use Rattle.place_nodes.proofs.split.first_wide.Goals as goal

pub loop-j-preserved : goal.loop-j-preserved
loop-j-preserved c =
    All-more (λ (box : Span). box.low ≡ box.high) c.args.spans.now c.loop-j.j (record { low = pos 0; high = pos 0 }) c.loop-j-test.true c.loop-j.invariant (c.if-not-is_point.ensures.0 refl)

pub returns : goal.returns
returns c = subst ArePoints (take_all c.loop-j.j c.args.spans.now c.loop-j-test.false) c.loop-j.invariant
