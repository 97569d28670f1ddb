use Rattle.std.specs.Prelude.{slice_index}
use Rattle.path_graph.specs.Parts.{arcs_from}
use Rattle.label_rules.specs.Labels.{Setting}
use Rattle.route_labels.specs.Meaning.{setting_of}
use Rattle.list_check.proofs.NodeLemmas.{not_over}
use Rattle.list_check.proofs.nodes.node_over.Goals as goal

pub returns-in-None : goal.returns-in-None
returns-in-None c =
    let S : Setting = setting_of c.args.field.now in
    let node = c.args.node.now in
    not_over S node.label node.visited (slice_index (arcs_from S.graph.arcs node.label.vertex) c.args.place) c.in-None.ensures
