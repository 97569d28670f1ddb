use Rattle.std.proofs.Common.{◌≡◌, ◌<◌, length, sym, ◌∙◌, ap, subst, arith}
use Rattle.path_graph.specs.declared.parts.GraphArc.{GraphArc}
use Rattle.path_graph.specs.Walk.{GraphParts, arc_at}
use Rattle.path_graph.proofs.IndexLemmas.{index_size}
use Rattle.route_labels.specs.Meaning.{setting_of}
use Rattle.proof_check.specs.Index.{places_at}
use Rattle.arc_fixing.proofs.PairLemmas.{index_row}
use Rattle.arc_fixing.proofs.joins.are_above.Goals as goal

pub row_at-starts-requires-clause-there : goal.row_at-starts-requires-clause-there
row_at-starts-requires-clause-there c =
    let S = setting_of c.args.field.now in
    let ends : c.arc-ends.result ≡ arc_at S.graph.arcs c.args.arc = c.arc-ends.ensures.arc ∙ ap (λ (g : GraphParts). arc_at g.arcs c.args.arc) c.path_graph.ensures.graph in
    let fits = c.path_graph.ensures.agree.setting.graph.fits.each_arc c.args.arc _ c.requires.arc in
    let there : c.arc-ends.result.tail < length S.graph.vertices = subst (λ (x : GraphArc). x.tail < length S.graph.vertices) (sym ends) fits.tail in
    let size = index_size (places_at c.args.fore.now.labels.now) c.args.fore.now.index.now (length S.graph.vertices) c.requires.fore_index in
    omega (arith, there, size)

pub row_at-starts-requires-clause-index : goal.row_at-starts-requires-clause-index
row_at-starts-requires-clause-index c = index_row c.args.fore.now.labels.now (length (setting_of c.args.field.now).graph.vertices) c.args.fore.now.index.now c.requires.fore_index

pub row_at-rests-requires-clause-there : goal.row_at-rests-requires-clause-there
row_at-rests-requires-clause-there c =
    let S = setting_of c.args.field.now in
    let ends : c.arc-ends.result ≡ arc_at S.graph.arcs c.args.arc = c.arc-ends.ensures.arc ∙ ap (λ (g : GraphParts). arc_at g.arcs c.args.arc) c.path_graph.ensures.graph in
    let fits = c.path_graph.ensures.agree.setting.graph.fits.each_arc c.args.arc _ c.requires.arc in
    let there : c.arc-ends.result.head < length S.graph.vertices = subst (λ (x : GraphArc). x.head < length S.graph.vertices) (sym ends) fits.head in
    let size = index_size (places_at c.args.back.now.labels.now) c.args.back.now.index.now (length S.graph.vertices) c.requires.back_index in
    omega (arith, there, size)

pub row_at-rests-requires-clause-index : goal.row_at-rests-requires-clause-index
row_at-rests-requires-clause-index c = index_row c.args.back.now.labels.now (length (setting_of c.args.field.now).graph.vertices) c.args.back.now.index.now c.requires.back_index
