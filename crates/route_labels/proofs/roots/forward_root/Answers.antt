use Rattle.std.proofs.Common.{FitsSigned, ap, ◌∙◌, rules}
use Rattle.std.specs.Int.{w128}
use Rattle.std.specs.Prelude.{replicate}
use Rattle.std.proofs.lemmas.Int.{to_z-of_z}
use Rattle.path_graph.specs.declared.parts.Ends.{Ends}
use Rattle.path_graph.specs.Walk.{GraphParts}
use Rattle.path_graph.specs.Walk.{root_of}
use Rattle.route_labels.proofs.ArrivalLemmas.{empty_is}
use Rattle.route_labels.proofs.roots.forward_root.Goals as goal

pub returns : goal.returns
returns c =
    let vertex = ap (λ (e : Ends). e.source) (c.ends.ensures.ends ∙ ap (λ (g : GraphParts). g.ends) c.graph_of-graph.ensures) in
    let values = c.root_values.ensures.root ∙ ap root_of c.graph_of-graph.ensures in
    let memory = empty_is c.empty.result c.empty.ensures.members c.empty.ensures.whole in
    let fits : FitsSigned w128 c.start_of.result = search rules in
    let cost = to_z-of_z w128 c.start_of.result fits ∙ c.start_of.ensures in
    λ i. record { vertex = vertex i; values = values i; memory = memory i; states = replicate 64 0; cost = cost i }
