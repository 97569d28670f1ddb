use Rattle.std.proofs.Common.{◌≡◌, ℕ, length, sym, ◌∙◌, ap, subst, arith, ◌+◌}
use Rattle.path_graph.specs.Walk.{GraphParts}
use Rattle.label_rules.specs.Labels.{Setting}
use Rattle.route_labels.specs.Meaning.{setting_of}
use Rattle.concatenate.specs.Costs.{IsCostBelow, IsLeastWith}
use Rattle.concatenate.proofs.LeastLemmas.{below_all, below_arc, bounds_walks}
use Rattle.concatenate.proofs.least.least_join.Goals as goal

pub loop-arc-preserved : goal.loop-arc-preserved
loop-arc-preserved c =
    let S : Setting = setting_of c.args.field.now in
    subst (IsLeastWith (IsCostBelow S c.args.fore.now c.args.back.now (c.loop-arc.arc + 1))) (sym c.lesser-least.ensures)
    (below_arc S c.args.fore.now c.args.back.now c.loop-arc.arc c.loop-arc.least c.least_over.result c.loop-arc.invariant c.least_over.ensures)

pub returns-clause-least : goal.returns-clause-least
returns-clause-least c =
    let S : Setting = setting_of c.args.field.now in
    let count = c.arc_count-arc-end.ensures ∙ ap (λ (g : GraphParts). length g.arcs) c.path_graph-graph.ensures.graph in
    let last : c.loop-arc.arc ≡ length S.graph.arcs = omega (arith, count, c.loop-arc-test.false, c.loop-arc.auto.arc-end) in
    below_all S c.args.fore.now c.args.back.now c.loop-arc.least
    (subst (λ (n : ℕ). IsLeastWith (IsCostBelow S c.args.fore.now c.args.back.now n) c.loop-arc.least) last c.loop-arc.invariant)

pub returns-clause-walks : goal.returns-clause-walks
returns-clause-walks c = bounds_walks (setting_of c.args.field.now) c.args.fore.now c.args.back.now c.loop-arc.least c.path_graph-graph.ensures.agree.setting (returns-clause-least c)
