use Rattle.std.proofs.Common.{◌≡◌, [], sym, subst, ◌∙◌, ap}
use Rattle.label_rules.specs.declared.label.Label.{Label}
use Rattle.label_rules.specs.Labels.{Forward, root}
use Rattle.route_labels.specs.declared.field.Field.{Field}
use Rattle.route_labels.specs.Fit.{PartsAgree}
use Rattle.route_labels.specs.Meaning.{setting_of}
use Rattle.list_check.specs.Prefixes.{IsPrefixLabel}
use Rattle.list_check.proofs.PrefixLemmas.{first_label}
use Rattle.walk_list.proofs.prefixes.empty_prefix.Goals as goal

pub returns : goal.returns
returns c =
    let f : Field = c.args.field.now in
    let agree = subst PartsAgree c.new.ensures.field c.new.result.agree in
    let first = first_label (setting_of f) c.empty.result agree.setting agree.costs c.empty.ensures.members in
    let is : c.root.result ≡ root Forward (setting_of f) = c.root.ensures ∙ ap (λ (g : Field). root Forward (setting_of g)) c.new.ensures.field in
    subst (λ (l : Label). IsPrefixLabel (setting_of f) [] l c.empty.result) (sym is) first
