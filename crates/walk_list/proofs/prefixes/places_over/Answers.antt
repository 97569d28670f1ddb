use Rattle.std.proofs.Common.{◌≡◌, ℕ, ◌<◌, [], length, sym, ◌∙◌, ap, subst, arith}
use Rattle.path_graph.specs.declared.parts.GraphArc.{GraphArc}
use Rattle.path_graph.specs.Walk.{GraphParts, arc_at}
use Rattle.path_graph.proofs.IndexLemmas.{index_at, index_size}
use Rattle.label_rules.specs.Labels.{Setting}
use Rattle.route_labels.specs.Meaning.{setting_of}
use Rattle.list_check.specs.Heads.{places_at}
use Rattle.walk_list.proofs.prefixes.places_over.Goals as goal

head_is : (S : Setting) (g : GraphParts) (a : ℕ) (arc : GraphArc) → g ≡ S.graph → arc ≡ arc_at g.arcs a → arc.head ≡ (arc_at S.graph.arcs a).head
head_is S g a arc same is = ap (λ (x : GraphArc). x.head) is ∙ ap (λ (h : GraphParts). (arc_at h.arcs a).head) same

pub at-requires : goal.at-requires
at-requires c =
    let S : Setting = setting_of c.args.field.now in
    let size = index_size (places_at c.args.rests.now.labels.now) c.args.rests.now.heads.now (length S.graph.vertices) c.requires.rests.heads in
    let head = head_is S c.path_graph.result.now c.args.arc c.arc-head.result c.path_graph.ensures.graph c.arc-head.ensures.arc in
    let inside = (c.path_graph.ensures.agree.setting.graph.fits.each_arc c.args.arc (arc_at [] 0) c.requires.arc).head in
    let low : c.arc-head.result.head < length S.graph.vertices = subst (λ (v : ℕ). v < length S.graph.vertices) (sym head) inside in
    omega (arith, low, size)

pub returns : goal.returns
returns c =
    let S : Setting = setting_of c.args.field.now in
    let labels = c.args.rests.now.labels.now in
    let head = head_is S c.path_graph.result.now c.args.arc c.arc-head.result c.path_graph.ensures.graph c.arc-head.ensures.arc in
    let inside = (c.path_graph.ensures.agree.setting.graph.fits.each_arc c.args.arc (arc_at [] 0) c.requires.arc).head in
    let low : c.arc-head.result.head < length S.graph.vertices = subst (λ (v : ℕ). v < length S.graph.vertices) (sym head) inside in
    c.as_slice.ensures ∙ (index_at (places_at labels) c.args.rests.now.heads.now (length S.graph.vertices) c.arc-head.result.head c.at.result.now c.requires.rests.heads low c.at.ensures ∙ ap (places_at labels) head)
