use Rattle.std.proofs.Common.{◌≡◌, ◌∙◌, sym, ap, subst}
use Rattle.path_graph.specs.declared.parts.Values.{Values}
use Rattle.path_graph.specs.declared.parts.Ends.{Ends}
use Rattle.path_graph.specs.Fit.{vertex_at}
use Rattle.path_graph.specs.Rest.{end_of}
use Rattle.path_graph.specs.Within.{AreWithin}
use Rattle.path_graph.proofs.RestLemmas.{end_is_within, high_ends_of}
use Rattle.path_graph.proofs.rest.end_values.Goals as goal

pub returns-clause-in_windows : goal.returns-clause-in_windows
returns-clause-in_windows c =
    let g = c.args.g.now in
    let vertex : c.vertex.result ≡ vertex_at g.vertices g.ends.sink = c.vertex.ensures.vertex ∙ ap (λ (e : Ends). vertex_at g.vertices e.sink) c.ends.ensures.ends in
    let end : c.high_ends.result ≡ end_of g = c.high_ends.ensures ∙ ap high_ends_of vertex in
    subst (λ (v : Values). AreWithin (vertex_at g.vertices g.ends.sink).windows v) (sym end) (end_is_within g c.vertex.ensures.fits)
