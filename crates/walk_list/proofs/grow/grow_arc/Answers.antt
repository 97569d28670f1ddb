use Rattle.std.proofs.Common.{◌≡◌, ◌+◌, List, [], ◌∷◌, ◌++◌, map, slice_index, sym, ◌∙◌, ap, subst, arith}
use Rattle.std.proofs.lemmas.List.{length-map, map-append}
use Rattle.path_graph.specs.Parts.{arcs_from}
use Rattle.path_graph.specs.Walk.{GraphParts}
use Rattle.label_rules.specs.Labels.{Setting}
use Rattle.cert_rules.specs.Meaning.{step_of}
use Rattle.proof_rules.specs.PrefixTrees.{Step}
use Rattle.route_labels.specs.Meaning.{setting_of}
use Rattle.walk_list.specs.declared.prefixes.Prefix.{Prefix}
use Rattle.walk_list.specs.Growing.{IsGrowingAt}
use Rattle.walk_list.specs.Prefixes.{arc_after}
use Rattle.walk_list.proofs.GrowthLemmas.{grow_full, grow_more, grow_past}
use Rattle.walk_list.proofs.grow.grow_arc.Goals as goal

pub returns-then-len-room-clause-full : goal.returns-then-len-room-clause-full
returns-then-len-room-clause-full c =
    let S : Setting = setting_of c.args.field.now in
    let rests = c.args.rests.now in
    let growth = c.args.growth.now in
    let size = length-map growth.steps.items step_of in
    grow_full S rests.labels.now rests.limit (map step_of growth.steps.items) growth.prefixes.items c.args.number c.args.node.now c.args.place c.args.room c.path_graph.ensures.agree.setting c.requires.growing c.requires.place
    c.in-Some.ensures.wanted (omega (arith, size, growth.steps.ok.0, c.len.ensures, c.if-len-room.true))

pub returns-in-None-clause-more : goal.returns-in-None-clause-more
returns-in-None-clause-more c =
    let S : Setting = setting_of c.args.field.now in
    let rests = c.args.rests.now in
    let growth = c.args.growth.now in
    grow_past S rests.labels.now rests.limit (map step_of growth.steps.items) growth.prefixes.items c.args.number c.args.node.now c.args.place c.requires.growing c.in-None.ensures

pub returns-in_ok-put-in-Some-clause-more : goal.returns-in_ok-put-in-Some-clause-more
returns-in_ok-put-in-Some-clause-more c =
    let S : Setting = setting_of c.args.field.now in
    let rests = c.args.rests.now in
    let growth = c.args.growth.now in
    let old : List Step = map step_of growth.steps.items in
    let node = c.args.node.now in
    let next = c.in-Some.next in
    let arc : c.out_arc-arc.result ≡ arc_after S node c.args.place = c.out_arc-arc.ensures.arc ∙ ap (λ (g : GraphParts). slice_index (arcs_from g.arcs node.label.vertex) c.args.place) c.path_graph.ensures.graph in
    let more = grow_more S rests.labels.now rests.limit old growth.prefixes.items c.args.number node c.args.place next c.path_graph.ensures.agree.setting c.path_graph.ensures.agree.costs c.requires.growing c.requires.place
    c.in-Some.ensures in
    let steps : map step_of c.put.new.growth.steps.items ≡ old ++ record { parent = c.args.number; arc = arc_after S node c.args.place } ∷ [] =
    ap (map step_of) c.in_ok-put-in-Some.ensures.steps
    ∙ (map-append step_of growth.steps.items (record { parent = c.args.number; arc = c.out_arc-arc.result } ∷ [])
    ∙ (λ i. old ++ record { parent = c.args.number; arc = arc i } ∷ [])) in
    subst (λ (xs : List Step). IsGrowingAt S rests.labels.now rests.limit xs c.put.new.growth.prefixes.items c.args.number node (c.args.place + 1)) (sym steps)
    (subst (λ (ps : List Prefix). IsGrowingAt S rests.labels.now rests.limit (old ++ record { parent = c.args.number; arc = arc_after S node c.args.place } ∷ []) ps c.args.number node (c.args.place + 1))
    (sym c.in_ok-put-in-Some.ensures.prefixes) more)
