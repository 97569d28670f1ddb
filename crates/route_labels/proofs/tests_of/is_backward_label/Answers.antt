use Rattle.std.proofs.Common.{FitsSigned, neg_ℤ, sym, ◌∙◌, ap, rules}
use Rattle.std.specs.Int.{w64, w128}
use Rattle.std.proofs.lemmas.Bool.{false≢true}
use Rattle.std.proofs.lemmas.Int.{to_z-of_z}
use Rattle.path_graph.specs.Level.{level_of}
use Rattle.path_graph.specs.Walk.{GraphParts}
use Rattle.label_rules.specs.Labels.{Backward, Setting}
use Rattle.route_labels.specs.Meaning.{setting_of}
use Rattle.route_labels.proofs.TestLemmas.{not_standing, range_read, standing}
use Rattle.route_labels.proofs.tests_of.is_backward_label.Goals as goal

pub returns-then-not-stands : goal.returns-then-not-stands
returns-then-not-stands c = not_standing Backward (setting_of c.args.field.now) c.args.l.now (λ st. false≢true (sym c.if-not-stands.true ∙ c.stands.ensures.1 st))

pub returns : goal.returns
returns c =
    let S : Setting = setting_of c.args.field.now in
    let l = c.args.l.now in
    let height = c.level.ensures.level ∙ ap (λ (g : GraphParts). level_of g l.vertex l.values) c.graph_of.ensures in
    let fits : FitsSigned w128 l.cost = search rules in
    let least : FitsSigned w64 c.level.result = search rules in
    let small : FitsSigned w64 c.negated.result = search rules in
    let low = to_z-of_z w64 c.negated.result small ∙ (c.negated.ensures.negated ∙ ap neg_ℤ (to_z-of_z w64 c.level.result least ∙ height)) in
    let range = range_read Backward S l c.is_in_range.result _ _ (to_z-of_z w128 l.cost fits) low c.is_in_range.ensures in
    standing Backward S l c.is_in_range.result (c.stands.ensures.0 c.if-not-stands.false) range
