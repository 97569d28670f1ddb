use Rattle.std.proofs.Common.{FitsSigned, ◌≡◌, ◌≤ℤ◌, of_z, to_z, ◌∙◌, rules, sym, subst, ℤ}
use Rattle.std.specs.Int.{w128}
use lib.Signed.{le_z}
use Rattle.std.proofs.lemmas.Int.{to_z-of_z}
use Rattle.label_rules.specs.Labels.{Setting}
use Rattle.label_rules.proofs.TestLemmas.{le_decides}
use Rattle.route_labels.specs.Meaning.{setting_of}
use Rattle.list_check.proofs.joining.joins_within.Goals as goal

pub returns-in-Some : goal.returns-in-Some
returns-in-Some c =
    let S : Setting = setting_of c.args.field.now in
    let limit : FitsSigned w128 c.args.rests.now.limit = search rules in
    let cost : FitsSigned w128 c.in-Some.cost = search rules in
    let told = to_z-of_z w128 c.args.rests.now.limit limit in
    let read = to_z-of_z w128 c.in-Some.cost cost in
    let both = le_decides c.in-Some.cost c.args.rests.now.limit in
    let same = c.in-Some.ensures.same in
    let test : le_z (to_z w128 (of_z w128 c.in-Some.cost)) (to_z w128 (of_z w128 c.args.rests.now.limit)) ≡ le_z c.in-Some.cost c.args.rests.now.limit = λ i. le_z (read i) (told i) in (
      λ h. record { joins = c.in-Some.ensures.joins; cost = subst (λ (x : ℤ). x ≤ℤ c.args.rests.now.limit) (sym same) (both.0 (sym test ∙ h)) },
      λ h. test ∙ both.1 (subst (λ (x : ℤ). x ≤ℤ c.args.rests.now.limit) same h.cost),
    )
