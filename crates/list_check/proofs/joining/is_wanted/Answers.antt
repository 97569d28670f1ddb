use Rattle.std.proofs.Common.{◌≡◌, ℕ, ◌<◌, length, slice_index, sym, ◌∙◌, ap, subst, arith}
use Rattle.path_graph.specs.Parts.{arcs_from}
use Rattle.path_graph.specs.Walk.{GraphParts, arc_at}
use Rattle.path_graph.proofs.IndexLemmas.{index_at, index_size}
use Rattle.label_rules.specs.declared.label.Label.{Label}
use Rattle.label_rules.specs.Labels.{Setting}
use Rattle.route_labels.specs.Meaning.{setting_of}
use Rattle.list_check.specs.Heads.{places_at}
use Rattle.list_check.proofs.joining.is_wanted.Goals as goal

pub at-places-requires : goal.at-places-requires
at-places-requires c =
    let S : Setting = setting_of c.args.field.now in
    let size = index_size (places_at c.args.rests.now.labels.now) c.args.rests.now.heads.now (length S.graph.vertices) c.requires.rests.heads in
    let at : c.in-Some.next.label.vertex ≡ (arc_at S.graph.arcs (slice_index (arcs_from S.graph.arcs c.args.node.now.label.vertex) c.args.place)).head = ap (λ (l : Label). l.vertex) c.in-Some.ensures.is in
    let inside = subst (λ (v : ℕ). v < length S.graph.vertices) (sym at) (c.path_graph.ensures.agree.setting.graph.fits.each_arc _ _ c.in-Some.ensures.goes.there).head in
    omega (arith, inside, size)

pub joins_one-requires-clause-places : goal.joins_one-requires-clause-places
joins_one-requires-clause-places c =
    let S : Setting = setting_of c.args.field.now in
    let labels = c.args.rests.now.labels.now in
    let arc : c.out_arc-arc.result ≡ slice_index (arcs_from S.graph.arcs c.args.node.now.label.vertex) c.args.place =
    c.out_arc-arc.ensures.arc ∙ ap (λ (g : GraphParts). slice_index (arcs_from g.arcs c.args.node.now.label.vertex) c.args.place) c.path_graph.ensures.graph in
    let at : c.in-Some.next.label.vertex ≡ (arc_at S.graph.arcs (slice_index (arcs_from S.graph.arcs c.args.node.now.label.vertex) c.args.place)).head = ap (λ (l : Label). l.vertex) c.in-Some.ensures.is in
    let inside = subst (λ (v : ℕ). v < length S.graph.vertices) (sym at) (c.path_graph.ensures.agree.setting.graph.fits.each_arc _ _ c.in-Some.ensures.goes.there).head in
    c.as_slice.ensures
    ∙ (index_at (places_at labels) c.args.rests.now.heads.now (length S.graph.vertices) c.in-Some.next.label.vertex c.at-places.result.now c.requires.rests.heads inside c.at-places.ensures
    ∙ ap (places_at labels) (at ∙ ap (λ (a : ℕ). (arc_at S.graph.arcs a).head) (sym arc)))
