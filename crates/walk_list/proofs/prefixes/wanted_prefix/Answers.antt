use Rattle.std.proofs.Common.{◌≡◌, ℕ, slice_index, sym, ◌∙◌, ap, subst}
use Rattle.path_graph.specs.Fit.{vertex_at}
use Rattle.path_graph.specs.Parts.{arcs_from}
use Rattle.path_graph.specs.Visits.{visit_over}
use Rattle.path_graph.specs.Walk.{GraphParts}
use Rattle.path_graph.proofs.IndexLemmas.{from_at}
use Rattle.label_rules.specs.Labels.{Setting}
use Rattle.route_labels.specs.Meaning.{setting_of}
use Rattle.list_check.specs.Prefixes.{JoinsOne}
use Rattle.list_check.proofs.NodeLemmas.{next_over, not_over, over_vertex}
use Rattle.walk_list.specs.Prefixes.{arc_after}
use Rattle.walk_list.proofs.WantedLemmas.{unvisited, visited_not}
use Rattle.walk_list.proofs.prefixes.wanted_prefix.Goals as goal

pub returns-then-is_visited_set : goal.returns-then-is_visited_set
returns-then-is_visited_set c wanted =
    let S : Setting = setting_of c.args.field.now in
    let node = c.args.prefix.now in
    let arc : c.out_arc-arc.result ≡ arc_after S node c.args.place = c.out_arc-arc.ensures.arc ∙ ap (λ (g : GraphParts). slice_index (arcs_from g.arcs node.label.vertex) c.args.place) c.path_graph.ensures.graph in
    let set : c.set_over-set.result ≡ visit_over S.graph (arc_after S node c.args.place) = c.set_over-set.ensures.set ∙ ap (visit_over S.graph) arc in
    visited_not S node.label node.visited (arc_after S node c.args.place) c.set_over-set.result set (sym c.is_visited_set.ensures ∙ c.if-is_visited_set.true) wanted.goes

pub returns-in-None : goal.returns-in-None
returns-in-None c wanted =
    let S : Setting = setting_of c.args.field.now in
    let node = c.args.prefix.now in
    not_over S node.label node.visited (arc_after S node c.args.place) c.in-None.ensures wanted.goes

pub returns-in-Some : goal.returns-in-Some
returns-in-Some c =
    let S : Setting = setting_of c.args.field.now in
    let node = c.args.prefix.now in
    let a : ℕ = arc_after S node c.args.place in
    let arc : c.out_arc-arc.result ≡ a = c.out_arc-arc.ensures.arc ∙ ap (λ (g : GraphParts). slice_index (arcs_from g.arcs node.label.vertex) c.args.place) c.path_graph.ensures.graph in
    let set : c.set_over-set.result ≡ visit_over S.graph a = c.set_over-set.ensures.set ∙ ap (visit_over S.graph) arc in
    let at = from_at S.graph.arcs node.label.vertex c.args.place c.requires.place in
    let vertex = over_vertex S node.label c.in-Some.label a c.in-Some.ensures in
    let read : c.set_over-set.result ≡ (vertex_at S.graph.vertices c.in-Some.label.vertex).set = set ∙ ap (λ (v : ℕ). (vertex_at S.graph.vertices v).set) (sym vertex) in
    let over = next_over S node.label c.in-Some.label node.visited c.visited_with.result a c.set_over-set.result at.0 at.1 c.in-Some.ensures read
    (unvisited node.visited c.set_over-set.result (sym c.is_visited_set.ensures ∙ c.if-is_visited_set.false)) c.visited_with.ensures in
    let joins = c.joins_one.ensures.0 c.if-not-joins_one.false in
    record {
      wanted = record { goes = over.goes; joins = subst (JoinsOne S c.args.rests.now.labels.now c.args.rests.now.limit node.label) arc joins };
      over = over;
    }
