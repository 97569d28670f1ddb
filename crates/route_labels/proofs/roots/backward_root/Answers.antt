use Rattle.std.proofs.Common.{pos, ap, ◌∙◌}
use Rattle.std.specs.Prelude.{replicate}
use Rattle.path_graph.specs.declared.parts.Ends.{Ends}
use Rattle.path_graph.specs.Walk.{GraphParts}
use Rattle.path_graph.specs.Rest.{end_of}
use Rattle.route_labels.proofs.ArrivalLemmas.{empty_is}
use Rattle.route_labels.proofs.roots.backward_root.Goals as goal

pub returns : goal.returns
returns c =
    let vertex = ap (λ (e : Ends). e.sink) (c.ends.ensures.ends ∙ ap (λ (g : GraphParts). g.ends) c.graph_of-graph.ensures) in
    let values = c.end_values.ensures.end ∙ ap end_of c.graph_of-graph.ensures in
    let memory = empty_is c.empty.result c.empty.ensures.members c.empty.ensures.whole in
    λ i. record { vertex = vertex i; values = values i; memory = memory i; states = replicate 64 0; cost = pos 0 }
