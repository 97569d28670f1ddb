use Rattle.std.proofs.Common.{FitsSigned, ℤ, Option, Some, rules, sym, ◌∙◌, ap, subst}
use Rattle.std.specs.Int.{w128}
use Rattle.std.proofs.lemmas.Int.{to_z-of_z}
use Rattle.label_rules.specs.Leasts.{AreAllAbove}
use Rattle.route_labels.specs.Meaning.{setting_of}
use Rattle.arc_fixing.proofs.fixing.is_fixable.Goals as goal

pub returns-in-Some : goal.returns-in-Some
returns-in-Some c =
    let S = setting_of c.args.field.now in
    let fore = c.args.fore.now.labels.now in
    let back = c.args.back.now.labels.now in
    let fits : FitsSigned w128 c.in-Some.limit = search rules in
    let read = ap Some (to_z-of_z w128 c.in-Some.limit fits) in (
      λ h. record {
        open_arc = sym c.is_shut.ensures ∙ c.if-is_shut.false;
        above = subst (λ (limit : Option ℤ). AreAllAbove S fore back limit c.args.arc) (read ∙ sym c.in-Some.is) (c.are_above.ensures.0 h);
      },
      λ holds. c.are_above.ensures.1 (subst (λ (limit : Option ℤ). AreAllAbove S fore back limit c.args.arc) (c.in-Some.is ∙ sym read) holds.above),
    )
