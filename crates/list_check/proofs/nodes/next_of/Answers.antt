use Rattle.std.proofs.Common.{◌<◌, ◌∙◌, ap, length, sym, subst}
use Rattle.std.specs.Prelude.{slice_index}
use Rattle.path_graph.specs.Parts.{arcs_from}
use Rattle.path_graph.specs.Walk.{GraphParts}
use Rattle.label_rules.specs.Labels.{Setting}
use Rattle.route_labels.specs.Meaning.{setting_of}
use Rattle.list_check.proofs.ArcLemmas.{arc_among}
use Rattle.list_check.proofs.nodes.next_of.Goals as goal

pub returns-in-None : goal.returns-in-None
returns-in-None c goes =
    let S : Setting = setting_of c.args.field.now in
    let node = c.args.node.now in
    let at = arc_among S.graph.arcs node.label.vertex c.args.arc goes.there goes.leaves in
    let same = c.path_graph.ensures.graph in
    c.in-None.ensures at.0 (subst (λ (g : GraphParts). at.0 < length (arcs_from g.arcs node.label.vertex)) (sym same) at.1)
    (ap (λ (g : GraphParts). slice_index (arcs_from g.arcs node.label.vertex) at.0) same ∙ at.2)
