use Rattle.std.proofs.Common.{FitsSigned, ◌≡◌, of_z, to_z, ◌∙◌, refl, rules, sym}
use Rattle.std.specs.Int.{w128}
use lib.Signed.{lt_z}
use Rattle.std.proofs.lemmas.Int.{to_z-of_z}
use Rattle.label_rules.specs.Labels.{Setting}
use Rattle.route_labels.specs.Meaning.{setting_of}
use Rattle.concatenate.proofs.LeastLemmas.{above_least, below_decides, least_above, none_above}
use Rattle.concatenate.proofs.least.all_joins_above.Goals as goal

pub returns-in-None : goal.returns-in-None
returns-in-None c =
    let S : Setting = setting_of c.args.field.now in
    (λ h. none_above S c.args.fore.now c.args.back.now c.args.arc c.args.limit c.in-None.ensures, λ h. refl)

pub returns-in-Some : goal.returns-in-Some
returns-in-Some c =
    let S : Setting = setting_of c.args.field.now in
    let limit : FitsSigned w128 c.args.limit = search rules in
    let least : FitsSigned w128 c.in-Some.least = search rules in
    let told = to_z-of_z w128 c.args.limit limit in
    let read = to_z-of_z w128 c.in-Some.least least in
    let both = below_decides c.args.limit c.in-Some.least in
    let test : lt_z (to_z w128 (of_z w128 c.args.limit)) (to_z w128 (of_z w128 c.in-Some.least)) ≡ lt_z c.args.limit c.in-Some.least = λ i. lt_z (told i) (read i) in (
      λ h. least_above S c.args.fore.now c.args.back.now c.args.arc c.args.limit c.in-Some.least c.in-Some.ensures (both.0 (sym test ∙ h)),
      λ h. test ∙ both.1 (above_least S c.args.fore.now c.args.back.now c.args.arc c.args.limit c.in-Some.least c.in-Some.ensures h),
    )
