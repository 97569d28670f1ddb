use Rattle.std.proofs.Common.{FitsSigned, ◌∙◌, ◌<◌, ℤ, ℕ, get_or, map, rules, sym, ap, subst}
use Rattle.std.specs.Int.{w128}
use Rattle.std.specs.List.{range_with_len}
use Rattle.std.proofs.lemmas.Int.{to_z-of_z}
use Rattle.label_rules.specs.Labels.{Setting}
use Rattle.route_labels.specs.Meaning.{setting_of}
use Rattle.list_check.specs.Heads.{places_at}
use Rattle.list_check.specs.Nodes.{HaveSteps}
use Rattle.list_check.proofs.complete.have_steps.Goals as goal

pub heads_of-requires : goal.heads_of-requires
heads_of-requires c = λ k d l. subst (λ (n : ℕ). (get_or c.args.back.now k d).vertex < n) (sym c.requires.count) (c.requires.back k d l).windows.vertex

pub all_have_steps-requires-clause-rests : goal.all_have_steps-requires-clause-rests
all_have_steps-requires-clause-rests c = record {
  may = c.requires.back;
  heads = c.in_ok-heads.ensures ∙ ap (λ (n : ℕ). map (places_at c.args.back.now) (range_with_len 0 n)) c.requires.count;
}

pub returns : goal.returns
returns c =
    let S : Setting = setting_of c.args.field.now in
    let limit : FitsSigned w128 c.args.limit = search rules in
    let told = to_z-of_z w128 c.args.limit limit in
    let both = c.all_have_steps.ensures in (
      λ h. subst (λ (x : ℤ). HaveSteps S c.args.back.now x c.args.lines.now c.args.nodes.now) told (both.0 h),
      λ all. both.1 (subst (λ (x : ℤ). HaveSteps S c.args.back.now x c.args.lines.now c.args.nodes.now) (sym told) all),
    )
