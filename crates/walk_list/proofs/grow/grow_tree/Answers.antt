use Rattle.std.proofs.Common.{ℤ, Option, List, [], map, sym, subst}
use Rattle.label_rules.specs.Labels.{Setting}
use Rattle.certificate.specs.declared.cert.Step.{Step as TextStep}
use Rattle.cert_rules.specs.Meaning.{step_of}
use Rattle.route_labels.specs.Meaning.{setting_of}
use Rattle.walk_list.specs.Growing.{IsWhole}
use Rattle.walk_list.proofs.GrowthLemmas.{empty_whole}
use Rattle.walk_list.proofs.grow.grow_tree.Goals as goal

pub returns-in-None-clause-whole : goal.returns-in-None-clause-whole
returns-in-None-clause-whole c =
    let S : Setting = setting_of c.args.field.now in
    let back = c.args.back.now in
    subst (λ (xs : List TextStep). IsWhole S back c.args.limit (map step_of xs)) (sym c.new.ensures)
    (subst (λ (o : Option ℤ). IsWhole S back o []) (sym c.in-None.is) (empty_whole S back))
