use Rattle.std.proofs.Common.{sym, subst, ap, ◌∙◌, arith}
use Rattle.path_graph.specs.declared.parts.Ends.{Ends}
use Rattle.path_graph.specs.declared.parts.GraphArc.{GraphArc}
use Rattle.path_graph.specs.Walk.{GraphParts, arc_at}
use Rattle.path_graph.specs.Walk.{Takes, over_of}
use Rattle.label_rules.specs.Labels.{Forward, Setting}
use Rattle.route_labels.specs.Meaning.{setting_of}
use Rattle.route_labels.proofs.ExtensionLemmas.{come_is, cost_near, entered_there, label_is, lies_at_tail, needed_read, none_extends, none_needed}
use Rattle.route_labels.proofs.extensions.extend_forward.Goals as goal

pub after-requires-clause-value : goal.after-requires-clause-value
after-requires-clause-value c = lies_at_tail (setting_of c.args.field.now) c.args.label.now c.args.arc c.graph_of-graph.result.now c.graph_of-graph.ensures c.requires.label c.requires.tail

pub returns-in_err-values : goal.returns-in_err-values
returns-in_err-values c =
    let S : Setting = setting_of c.args.field.now in
    c.from_residual.ensures
    ∙ none_extends Forward S c.args.top c.args.label.now c.args.arc
    (λ can. c.in_err-values.ensures.exact (subst (λ (g : GraphParts). Takes g c.args.label.now.values c.args.arc) (sym c.graph_of-graph.ensures) can.values))

pub returns-then-not-is_up_to : goal.returns-then-not-is_up_to
returns-then-not-is_up_to c =
    let S : Setting = setting_of c.args.field.now in
    let same = c.graph_of-graph.ensures in
    let there = ap (λ (x : GraphArc). x.head) (c.arc-vertex.ensures.arc ∙ ap (λ (g : GraphParts). arc_at g.arcs c.args.arc) same) in
    let moved = c.in_ok-values.ensures.exact.1 ∙ ap (λ (g : GraphParts). over_of g c.args.label.now.values c.args.arc) same in
    let last = ap (λ (e : Ends). e.sink) (c.ends.ensures.ends ∙ ap (λ (g : GraphParts). g.ends) same) in
    none_needed Forward S c.args.top c.args.label.now c.args.arc
    (needed_read S c.args.top c.args.label.now c.args.arc c.arc-vertex.result.head c.ends.result.sink c.in_ok-values.values there moved last
    ∙ (sym c.is_up_to.ensures ∙ c.if-not-is_up_to.true))

pub arrive-requires-clause-states : goal.arrive-requires-clause-states
arrive-requires-clause-states c = (label_is Forward (setting_of c.args.field.now) c.args.label.now c.requires.label).states

pub arrive-requires-clause-cost : goal.arrive-requires-clause-cost
arrive-requires-clause-cost c = cost_near Forward (setting_of c.args.field.now) c.args.label.now c.requires.agree.setting c.requires.label

pub arrive-requires-clause-vertex : goal.arrive-requires-clause-vertex
arrive-requires-clause-vertex c =
    let S : Setting = setting_of c.args.field.now in
    let there = ap (λ (x : GraphArc). x.head) (c.arc-vertex.ensures.arc ∙ ap (λ (g : GraphParts). arc_at g.arcs c.args.arc) c.graph_of-graph.ensures) in
    let inside = entered_there Forward S c.args.arc c.requires.agree.setting.graph c.requires.arc in
    omega (arith, there, inside)

pub returns : goal.returns
returns c =
    let S : Setting = setting_of c.args.field.now in
    let same = c.graph_of-graph.ensures in
    let there = ap (λ (x : GraphArc). x.head) (c.arc-vertex.ensures.arc ∙ ap (λ (g : GraphParts). arc_at g.arcs c.args.arc) same) in
    let moved = c.in_ok-values.ensures.exact.1 ∙ ap (λ (g : GraphParts). over_of g c.args.label.now.values c.args.arc) same in
    let last = ap (λ (e : Ends). e.sink) (c.ends.ensures.ends ∙ ap (λ (g : GraphParts). g.ends) same) in
    let needed = needed_read S c.args.top c.args.label.now c.args.arc c.arc-vertex.result.head c.ends.result.sink c.in_ok-values.values there moved last
    ∙ (sym c.is_up_to.ensures ∙ c.if-not-is_up_to.false) in
    come_is Forward S c.args.top c.args.label.now c.args.arc c.arrive.result c.arc-vertex.result.head c.in_ok-values.values there moved
    (sym c.is_shut.ensures ∙ c.if-is_shut.false)
    (subst (λ (g : GraphParts). Takes g c.args.label.now.values c.args.arc) same c.in_ok-values.ensures.exact.0)
    needed c.arrive.ensures
