use Rattle.std.proofs.Common.{◌≡◌, ℕ, ◌<◌, length, below_more, refl, sym, ◌∙◌, ap, subst, arith}
use Rattle.std.specs.Prelude.{IsTrue}
use Rattle.path_graph.specs.Parts.{arcs_from}
use Rattle.path_graph.specs.Walk.{GraphParts}
use Rattle.label_rules.specs.Labels.{Setting}
use Rattle.route_labels.specs.Meaning.{setting_of}
use Rattle.list_check.specs.Lines.{has_line}
use Rattle.list_check.specs.Nodes.{IsWantedAt}
use Rattle.list_check.proofs.ArcLemmas.{arc_among}
use Rattle.list_check.proofs.complete.has_steps.Goals as goal

pub loop-place-preserved : goal.loop-place-preserved
loop-place-preserved c = below_more _ _ c.loop-place.invariant (c.has_step.ensures.0 c.if-not-has_step.false)

pub returns : goal.returns
returns c =
    let S : Setting = setting_of c.args.field.now in
    let v = c.args.node.now.label.vertex in
    let count : c.out_count-place-end.result ≡ length (arcs_from S.graph.arcs v) =
    c.out_count-place-end.ensures ∙ ap (λ (g : GraphParts). length (arcs_from g.arcs v)) c.path_graph.ensures.graph in (
      λ h a wanted.
          let at = arc_among S.graph.arcs v a wanted.goes.there wanted.goes.leaves in
          let l : at.0 < c.loop-place.place = omega (arith, at.1, count, c.loop-place-test.false) in
          subst (λ (b : ℕ). IsTrue (has_line c.args.lines.now c.args.number b)) at.2
          (c.loop-place.invariant at.0 l (subst (IsWantedAt S c.args.rests.now.labels.now c.args.rests.now.limit c.args.node.now) (sym at.2) wanted)),
      λ h. refl,
    )
