use Rattle.std.proofs.Common.{ℕ, ◌∙◌, sym, ap}
use Rattle.route_model.specs.declared.places.Spot.{Spot}
use Rattle.cert_check.specs.Frames.{with_mark}
use Rattle.std.proofs.Common.{get_or, true}
use Rattle.cert_check.proofs.StackLemmas.{drop_more}
use Rattle.cert_check.proofs.moves.drop_arcs.Goals as goal

pub loop-arc-preserved : goal.loop-arc-preserved
loop-arc-preserved c =
    let arcs = c.args.arcs.now in
    let k = c.loop-arc.arc-index in
    let none : ℕ × ℕ = (0, 0) in
    record {
      spot = c.in_ok-drop_arc.ensures.spot
          ∙ (ap (λ (s : Spot). with_mark s (get_or arcs k none).0 (get_or arcs k none).1 true) c.loop-arc.invariant.spot
          ∙ sym (drop_more c.args.tree.now.spot arcs k none c.loop-arc-test.true));
      left = c.in_ok-drop_arc.ensures.left ∙ c.loop-arc.invariant.left;
    }
