use Rattle.std.proofs.Common.{[], List, map, sym, subst}
use Rattle.label_rules.specs.Labels.{Setting}
use Rattle.certificate.specs.declared.cert.Step.{Step as TextStep}
use Rattle.cert_rules.specs.Meaning.{step_of}
use Rattle.route_labels.specs.Meaning.{setting_of}
use Rattle.walk_list.specs.declared.prefixes.Prefix.{Prefix}
use Rattle.walk_list.specs.Growing.{IsDoneBelow}
use Rattle.walk_list.proofs.GrowthLemmas.{empty_grown}
use Rattle.walk_list.proofs.grow.first_growth.Goals as goal

pub returns-clause-done : goal.returns-clause-done
returns-clause-done c = λ back limit.
    let S : Setting = setting_of c.args.field.now in
    let first = c.empty_prefix.result in
    subst (λ (xs : List TextStep). IsDoneBelow S back limit (map step_of xs) c.in_ok-vec.field-0.items 0) (sym c.new.ensures.items)
    (subst (λ (ps : List Prefix). IsDoneBelow S back limit [] ps 0) (sym c.in_ok-vec.ensures.items) (empty_grown S back limit first c.empty_prefix.ensures))
