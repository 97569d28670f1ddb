use Rattle.std.proofs.Common.{FitsSigned, pos, refl, rules, sym, subst}
use Rattle.std.specs.Int.{w128}
use Rattle.std.proofs.lemmas.Int.{to_z-of_z}
use Rattle.path_graph.specs.Bounds.{IsAtLeast}
use Rattle.route_labels.specs.Meaning.{setting_of}
use Rattle.proof_check.proofs.JoinLemmas.{joins_above, least_above, no_join}
use Rattle.proof_check.proofs.sink.is_least_join.Goals as goal

pub returns-in-None : goal.returns-in-None
returns-in-None c =
    let S = setting_of c.args.field.now in
    (λ h. no_join S (pos 0) c.args.fore.now c.args.back.now c.args.least c.in-None.ensures.least, λ h. refl)

pub returns-in-Some : goal.returns-in-Some
returns-in-Some c =
    let S = setting_of c.args.field.now in
    let fits : FitsSigned w128 c.in-Some.cost = search rules in
    let read = to_z-of_z w128 c.in-Some.cost fits in (
      λ h. joins_above S (pos 0) c.args.fore.now c.args.back.now c.args.least c.in-Some.cost c.in-Some.ensures.least (subst (IsAtLeast c.args.least) read (c.is_at_least.ensures.0 h)),
      λ h. c.is_at_least.ensures.1 (subst (IsAtLeast c.args.least) (sym read) (least_above S (pos 0) c.args.fore.now c.args.back.now c.args.least c.in-Some.cost c.in-Some.ensures.least h)),
    )
