use Rattle.std.proofs.Common.{sym, ◌∙◌, ap, subst, take}
use Rattle.path_graph.specs.declared.parts.GraphArc.{GraphArc}
use Rattle.path_graph.specs.Walk.{GraphParts, arc_at}
use Rattle.label_rules.specs.Labels.{Setting}
use Rattle.route_labels.specs.Meaning.{setting_of}
use Rattle.concatenate.specs.Costs.{IsCostOver, IsLeastWith}
use Rattle.concatenate.proofs.LeastLemmas.{no_label, over_all, over_item, over_other_item}
use Rattle.concatenate.proofs.least.least_among.Goals as goal
use Rattle.concatenate.proofs.least.least_among.Goals.{then-f-tail, else-f-tail}

pub loop-f-preserved : goal.loop-f-preserved
loop-f-preserved c =
    let S : Setting = setting_of c.args.field.now in
    let tail = ap (λ (x : GraphArc). x.tail) (c.arc-tail.ensures.arc ∙ ap (λ (g : GraphParts). arc_at g.arcs c.args.arc) c.requires.graph) in
    elim c.if-f-tail.branch [
      | then-f-tail w ↦ over_item S c.args.arc c.args.fore.now c.args.back.now c.loop-f.f-index no_label c.loop-f.least w.least_with.result c.if-f-tail.least
          c.loop-f-test.true c.loop-f.invariant w.least_with.ensures (w.least-is ∙ w.lesser-least.ensures)
      | else-f-tail w ↦ over_other_item S c.args.arc c.args.fore.now c.args.back.now c.loop-f.f-index no_label c.if-f-tail.least
          c.loop-f-test.true (subst (IsLeastWith (IsCostOver S (take c.loop-f.f-index c.args.fore.now) c.args.back.now c.args.arc)) (sym w.least-is) c.loop-f.invariant)
          (λ e. w.if-f-tail.false (sym e ∙ sym tail))
    ]

pub returns : goal.returns
returns c = over_all (setting_of c.args.field.now) c.args.arc c.args.fore.now c.args.back.now c.loop-f.f-index c.loop-f.least c.loop-f-test.false c.loop-f.invariant
