use Rattle.std.proofs.Common.{◌≡◌, ℕ, get_or, inl, inr, refl, sym, ◌∙◌, ap, subst, arith}
use Rattle.std.specs.Prelude.{IsTrue}
use Rattle.std.proofs.lemmas.Bool.{cases_lt, false≢true}
use Rattle.std.proofs.lemmas.List.{get_or_default}
use Rattle.label_rules.specs.Labels.{Setting}
use Rattle.route_labels.specs.Meaning.{setting_of}
use Rattle.list_check.specs.declared.nodes.Node.{Node}
use Rattle.list_check.specs.Lines.{has_line}
use Rattle.list_check.specs.Nodes.{IsWantedAt}
use Rattle.list_check.proofs.complete.all_have_steps.Goals as goal

pub returns-then-not-has_steps : goal.returns-then-not-has_steps
returns-then-not-has_steps c = (
  λ h. absurd (false≢true h),
  λ all. absurd (false≢true (sym c.if-not-has_steps.true ∙ c.has_steps.ensures.1 (λ a wanted. all c.loop-number.number a _ c.loop-number-test.true wanted))),
)

pub loop-number-preserved : goal.loop-number-preserved
loop-number-preserved c k a other l wanted =
    let S : Setting = setting_of c.args.field.now in
    let nodes = c.args.nodes.now in
    let rests = c.args.rests.now in
    elim (cases_lt k c.loop-number.number) [
      | inl old ↦ c.loop-number.invariant k a other old wanted
      | inr past ↦
          let here : k ≡ c.loop-number.number = omega (arith, past, l) in
          let node : get_or nodes k other ≡ get_or nodes c.loop-number.number _ = ap (λ (n : ℕ). get_or nodes n other) here ∙ get_or_default nodes c.loop-number.number other _ c.loop-number-test.true in
          let has = c.has_steps.ensures.0 c.if-not-has_steps.false a (subst (λ (n : Node). IsWantedAt S rests.labels.now rests.limit n a) node wanted) in
          subst (λ (n : ℕ). IsTrue (has_line c.args.lines.now n a)) (sym here) has
    ]

pub returns : goal.returns
returns c = (λ h k a other l wanted. c.loop-number.invariant k a other (omega (arith, l, c.loop-number-test.false)) wanted, λ h. refl)
