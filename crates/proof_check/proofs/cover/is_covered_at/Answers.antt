use Rattle.std.proofs.Common.{sym, ◌∙◌}
use Rattle.route_labels.specs.Meaning.{setting_of}
use Rattle.proof_check.specs.Ways.{direction_of}
use Rattle.proof_check.proofs.CoverLemmas.{extension_vertex}
use Rattle.proof_check.proofs.cover.is_covered_at.Goals as goal

pub has_dominator-requires-clause-vertex : goal.has_dominator-requires-clause-vertex
has_dominator-requires-clause-vertex c =
    extension_vertex (direction_of c.args.way.now.backward) (setting_of c.args.way.now.field) c.args.way.now.threshold c.args.label.now c.in-Some.next c.args.k
    c.path_graph-graph.ensures.agree.setting c.requires.place (sym c.extension_at.ensures ∙ c.in-Some.is)
