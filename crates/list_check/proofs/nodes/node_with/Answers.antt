use Rattle.std.proofs.Common.{◌≡◌, ◌<◌, length, slice_index, sym, ◌∙◌, ap, subst}
use Rattle.std.specs.Prelude.{IfSome}
use Rattle.path_graph.specs.declared.parts.Vertex.{Vertex}
use Rattle.path_graph.specs.Fit.{vertex_at}
use Rattle.path_graph.specs.Parts.{arcs_from}
use Rattle.path_graph.specs.Walk.{GraphParts}
use Rattle.path_graph.proofs.IndexLemmas.{from_at}
use Rattle.label_rules.specs.Labels.{Setting}
use Rattle.label_rules.proofs.LabelLemmas.{set_small}
use Rattle.route_labels.specs.Meaning.{setting_of}
use Rattle.list_check.proofs.NodeLemmas.{next_over, over_there, visited_over}
use Rattle.list_check.proofs.nodes.node_with.Goals as goal

pub vertex-set-requires : goal.vertex-set-requires
vertex-set-requires c =
    let S : Setting = setting_of c.args.field.now in
    let node = c.args.node.now in
    let at = from_at S.graph.arcs node.label.vertex c.args.place c.requires.place in
    subst (λ (g : GraphParts). c.args.label.vertex < length g.vertices) (sym c.path_graph.ensures.graph)
    (over_there S node.label c.args.label (slice_index (arcs_from S.graph.arcs node.label.vertex) c.args.place) c.path_graph.ensures.agree.setting at.0 c.requires.label)

pub visited_after-requires : goal.visited_after-requires
visited_after-requires c =
    subst (λ (v : Vertex). IfSome v.set (λ s. s < 512)) (sym c.vertex-set.ensures.vertex) (set_small c.path_graph.result.now c.args.label.vertex c.vertex-set.ensures.fits)

pub returns-in-None : goal.returns-in-None
returns-in-None c =
    let S : Setting = setting_of c.args.field.now in
    let node = c.args.node.now in
    let read : c.vertex-set.result.set ≡ (vertex_at S.graph.vertices c.args.label.vertex).set =
    ap (λ (v : Vertex). v.set) c.vertex-set.ensures.vertex ∙ ap (λ (g : GraphParts). (vertex_at g.vertices c.args.label.vertex).set) c.path_graph.ensures.graph in
    visited_over S node.label c.args.label node.visited (slice_index (arcs_from S.graph.arcs node.label.vertex) c.args.place) c.vertex-set.result.set c.requires.label read c.in-None.ensures

pub returns-in-Some : goal.returns-in-Some
returns-in-Some c =
    let S : Setting = setting_of c.args.field.now in
    let node = c.args.node.now in
    let at = from_at S.graph.arcs node.label.vertex c.args.place c.requires.place in
    let read : c.vertex-set.result.set ≡ (vertex_at S.graph.vertices c.args.label.vertex).set =
    ap (λ (v : Vertex). v.set) c.vertex-set.ensures.vertex ∙ ap (λ (g : GraphParts). (vertex_at g.vertices c.args.label.vertex).set) c.path_graph.ensures.graph in
    next_over S node.label c.args.label node.visited c.in-Some.visited (slice_index (arcs_from S.graph.arcs node.label.vertex) c.args.place) c.vertex-set.result.set at.0 at.1
    c.requires.label read c.in-Some.ensures.0 c.in-Some.ensures.1
