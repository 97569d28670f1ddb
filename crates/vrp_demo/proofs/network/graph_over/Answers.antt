use Rattle.std.proofs.Common.{◌≡◌, map, sym, ap, ◌∙◌, subst}
use Rattle.std.specs.Prelude.{All}
use Rattle.path_graph.specs.declared.fault.GraphFault.{GraphFault}
use Rattle.path_graph.specs.Free.{HasNoFreeCycle}
use Rattle.path_graph.specs.Ranking.{IsCycleFault}
use Rattle.vrp_demo.specs.Arcs.{all_pairs, arc_over, AreIn}
use Rattle.vrp_demo.specs.Network.{vertices}
use Rattle.vrp_demo.proofs.GraphLemmas.{pairs_are_in, graph_parts_fit, graph_acyclic}
use Rattle.vrp_demo.proofs.network.graph_over.Goals as goal

pub arcs_over-requires : goal.arcs_over-requires
arcs_over-requires c =
    let stops = c.args.stops.now in
    subst (All (AreIn stops)) (sym c.requires.pairs) (pairs_are_in c.args.size stops c.requires.stops.count)

pub new-requires : goal.new-requires
new-requires c =
    let size = c.args.size in
    let stops = c.args.stops.now in
    let arcs : c.as_slice-2.result.now ≡ map (arc_over stops) (all_pairs size) =
    c.as_slice-2.ensures ∙ (c.in_ok-arcs.ensures ∙ ap (map (arc_over stops)) c.requires.pairs)
    in
    let points : c.as_slice.result.now ≡ vertices size = c.as_slice.ensures ∙ c.in_ok-vertices.ensures in
    record { fit = rw (c.ends_of.ensures, arcs, points) (graph_parts_fit size stops c.requires.size c.requires.stops) }

pub unreachable-requires : goal.unreachable-requires
unreachable-requires c =
    let size = c.args.size in
    let stops = c.args.stops.now in
    let arcs : c.as_slice-2.result.now ≡ map (arc_over stops) (all_pairs size) =
    c.as_slice-2.ensures ∙ (c.in_ok-arcs.ensures ∙ ap (map (arc_over stops)) c.requires.pairs)
    in
    let fault = subst (λ (f : GraphFault). IsCycleFault c.as_slice-2.result.now f) c.in-Err-FreeCycle.field-0-is c.in-Err-FreeCycle.ensures.cycle in
    subst HasNoFreeCycle (sym arcs) (graph_acyclic size stops c.requires.stops) _ fault
