use Rattle.std.proofs.Common.{◌<◌, length, map, sym, ◌∙◌, ap, arith}
use Rattle.std.proofs.lemmas.List.{get_or_default}
use Rattle.path_graph.specs.Parts.{arcs_from}
use Rattle.path_graph.specs.Walk.{GraphParts}
use Rattle.label_rules.specs.Labels.{Setting}
use Rattle.cert_rules.specs.Meaning.{step_of}
use Rattle.route_labels.specs.Meaning.{setting_of}
use Rattle.walk_list.proofs.GrowthLemmas.{node_begins, node_ends}
use Rattle.walk_list.proofs.TaskLemmas.{node_fits}
use Rattle.walk_list.proofs.grow.grow_node.Goals as goal

pub loop-place-init : goal.loop-place-init
loop-place-init c =
    let S : Setting = setting_of c.args.field.now in
    let growth = c.args.growth.now in
    let l : c.args.number < length growth.prefixes.items = omega (arith, c.requires.number, growth.prefixes.ok.0) in
    let is = get_or_default growth.prefixes.items c.args.number _ c.index.result.now l ∙ sym c.index.ensures in
    (node_begins S c.args.rests.now.labels.now c.args.rests.now.limit (map step_of growth.steps.items) growth.prefixes.items c.args.number c.index.result.now c.requires.done l is, c.requires.room)

pub grow_arc-requires-clause-label : goal.grow_arc-requires-clause-label
grow_arc-requires-clause-label c =
    node_fits c.args.field.now c.args.rests.now.labels.now c.args.rests.now.limit (map step_of c.loop-place.growth.steps.items) c.loop-place.growth.prefixes.items c.args.number _ c.loop-place.place
    c.requires.model c.requires.field c.loop-place.invariant.0

pub returns-clause-more : goal.returns-clause-more
returns-clause-more c =
    let f = c.args.field.now in
    let S : Setting = setting_of f in
    let count = c.out_count-place-end.ensures ∙ ap (λ (g : GraphParts). length (arcs_from g.arcs c.index.result.now.label.vertex)) c.path_graph.ensures.graph in
    node_ends S c.args.rests.now.labels.now c.args.rests.now.limit (map step_of c.loop-place.growth.steps.items) c.loop-place.growth.prefixes.items c.args.number c.index.result.now c.loop-place.place
    c.path_graph.ensures.agree.setting c.loop-place.invariant.0 (omega (arith, count, c.loop-place-test.false, c.loop-place.auto.place-end))
