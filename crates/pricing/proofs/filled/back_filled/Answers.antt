use Rattle.std.proofs.Common.{ℤ, Option, length, subst}
use Rattle.plain_table.specs.Outcomes.{IfClosed}
use Rattle.label_rules.specs.Labels.{Backward, Setting}
use Rattle.route_labels.specs.declared.field.Field.{Field}
use Rattle.route_labels.specs.Meaning.{setting_of}
use Rattle.route_labels.specs.Rules.{rules_of, vertex_of}
use Rattle.route_labels.specs.Tables.{IsBackwardList, kept_labels}
use Rattle.route_labels.proofs.KeptLemmas.{filled_list}
use Rattle.pricing.proofs.ToldLemmas.{closed_few}
use Rattle.pricing.proofs.filled.back_filled.Goals as goal

pub returns-clause-closed : goal.returns-clause-closed
returns-clause-closed c =
    let S : Setting = setting_of c.new.result.field in
    let list = filled_list Backward S c.new.result.above (length S.graph.vertices) vertex_of c.args.limit c.fill.result c.fill.ensures.sound c.fill.ensures.closed in
    let here = subst (λ (f : Field). IfClosed c.fill.result (λ t. IsBackwardList (setting_of f) c.new.result.above (kept_labels t.cells))) c.new.ensures.field list in
    subst (λ (o : Option ℤ). IfClosed c.fill.result (λ t. IsBackwardList (setting_of c.args.field) o (kept_labels t.cells))) c.new.ensures.threshold here

pub returns-clause-few : goal.returns-clause-few
returns-clause-few c = closed_few (rules_of Backward (setting_of c.new.result.field) c.new.result.above) c.args.limit c.fill.result c.fill.ensures.closed
