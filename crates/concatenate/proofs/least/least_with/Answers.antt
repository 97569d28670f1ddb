use Rattle.std.proofs.Common.{sym, ◌∙◌, ap, subst, take}
use Rattle.path_graph.specs.declared.parts.GraphArc.{GraphArc}
use Rattle.path_graph.specs.Walk.{GraphParts, arc_at}
use Rattle.label_rules.specs.Labels.{Setting}
use Rattle.route_labels.specs.Meaning.{setting_of}
use Rattle.concatenate.specs.Costs.{IsCostWith, IsLeastWith}
use Rattle.concatenate.proofs.LeastLemmas.{no_label, with_all, with_item, without_item}
use Rattle.concatenate.proofs.least.least_with.Goals as goal
use Rattle.concatenate.proofs.least.least_with.Goals.{then-b-head, else-b-head}

pub loop-b-preserved : goal.loop-b-preserved
loop-b-preserved c =
    let S : Setting = setting_of c.args.field.now in
    let head = ap (λ (x : GraphArc). x.head) (c.arc-head.ensures.arc ∙ ap (λ (g : GraphParts). arc_at g.arcs c.args.arc) c.requires.graph) in
    elim c.if-b-head.branch [
      | then-b-head w ↦ with_item S c.args.f.now c.args.arc c.args.back.now c.loop-b.b-index no_label c.loop-b.least w.cost_over.result c.if-b-head.least
          c.loop-b-test.true c.loop-b.invariant w.cost_over.ensures (w.least-is ∙ w.lesser-least.ensures)
      | else-b-head w ↦ without_item S c.args.f.now c.args.arc c.args.back.now c.loop-b.b-index no_label c.if-b-head.least
          c.loop-b-test.true (subst (IsLeastWith (IsCostWith S c.args.f.now c.args.arc (take c.loop-b.b-index c.args.back.now))) (sym w.least-is) c.loop-b.invariant) (λ e. w.if-b-head.false (sym e ∙ sym head))
    ]

pub returns : goal.returns
returns c = with_all (setting_of c.args.field.now) c.args.f.now c.args.arc c.args.back.now c.loop-b.b-index c.loop-b.least c.loop-b-test.false c.loop-b.invariant
