use Rattle.std.proofs.Common.{ℤ, None, Option, List, length, subst}
use Rattle.plain_table.specs.Outcomes.{IfClosed}
use Rattle.label_rules.specs.declared.label.Label.{Label}
use Rattle.label_rules.specs.Labels.{Backward, Setting, SettingFits}
use Rattle.route_labels.specs.declared.field.Field.{Field}
use Rattle.route_labels.specs.Meaning.{setting_of}
use Rattle.route_labels.specs.Rules.{vertex_of}
use Rattle.route_labels.specs.Tables.{HasRests, IsBackwardList, kept_labels}
use Rattle.route_labels.proofs.KeptLemmas.{closed_shows_rests, filled_list, filled_more}
use Rattle.route_labels.proofs.filled.backward_table.Goals as goal

pub returns-clause-closed : goal.returns-clause-closed
returns-clause-closed c =
    let S : Setting = setting_of c.new.result.field in
    let list = filled_list Backward S c.new.result.above (length S.graph.vertices) vertex_of c.args.limit c.fill.result c.fill.ensures.sound c.fill.ensures.closed in
    let here = subst (λ (f : Field). IfClosed c.fill.result (λ t. IsBackwardList (setting_of f) c.new.result.above (kept_labels t.cells))) c.new.ensures.field list in
    subst (λ (o : Option ℤ). IfClosed c.fill.result (λ t. IsBackwardList (setting_of c.args.field) o (kept_labels t.cells))) c.new.ensures.threshold here

pub returns-clause-rests : goal.returns-clause-rests
returns-clause-rests c none =
    let S : Setting = setting_of c.args.field in
    let fits = subst (λ (f : Field). SettingFits (setting_of f)) c.new.ensures.field c.new.result.agree.setting in
    let list = subst (λ (o : Option ℤ). IfClosed c.fill.result (λ t. IsBackwardList S o (kept_labels t.cells))) none (returns-clause-closed c) in
    filled_more (λ (labels : List Label). IsBackwardList S None labels) (λ (labels : List Label). HasRests S labels) c.fill.result (λ labels h. closed_shows_rests S labels fits h) list
