use Rattle.std.proofs.Common.{◌≡◌, pos, refl, subst}
use Rattle.std.proofs.lemmas.List.{take_all}
use Rattle.std.proofs.lemmas.List.Elements.{All-more}
use Rattle.route_model.specs.declared.places.Span.{Span}
use Rattle.proof_rules.specs.Nodes.{ArePoints}
use Rattle.count_trees.proofs.points.first_wide.Goals as goal

pub loop-i-preserved : goal.loop-i-preserved
loop-i-preserved c =
    All-more (λ (box : Span). box.low ≡ box.high) c.args.boxes.now c.loop-i.i (record { low = pos 0; high = pos 0 }) c.loop-i-test.true c.loop-i.invariant (c.if-not-is_point.ensures.0 refl)

pub returns : goal.returns
returns c = subst ArePoints (take_all c.loop-i.i c.args.boxes.now c.loop-i-test.false) c.loop-i.invariant
