use Rattle.std.proofs.Common.{FitsSigned, ◌≡◌, ◌^◌, true, sym, ◌∙◌, subst, rules}
use Rattle.std.specs.Int.{w128}
use Rattle.std.proofs.lemmas.Int.{to_z-of_z}
use Rattle.path_graph.specs.Within.{IsWithin}
use Rattle.label_rules.specs.Labels.{Forward}
use Rattle.label_rules.specs.Spaces.{is_label}
use Rattle.route_labels.specs.declared.field.Field.{Field}
use Rattle.route_labels.specs.Meaning.{setting_of}
use Rattle.route_labels.proofs.ExtensionLemmas.{label_is}
use Rattle.listing_tests.proofs.fits.may_join.Goals as goal

pub returns : goal.returns
returns c passes =
    let l = c.args.label.now in
    let told = subst (λ (f : Field). is_label Forward (setting_of f) l ≡ true) c.new-space.ensures.field (sym c.fits.ensures ∙ c.if-not-fits.false) in
    let is = label_is Forward (setting_of c.args.field) l told in
    let fits : FitsSigned w128 l.cost = search rules in
    record { windows = is.windows; states = is.states; cost = subst (IsWithin (2 ^ 112)) (to_z-of_z w128 l.cost fits) (c.is_near.ensures.0 passes) }
