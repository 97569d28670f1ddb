use Rattle.std.proofs.Common.{◌≡◌, ℕ, get_or, inl, inr, ◌∙◌, ap, subst, arith}
use Rattle.std.proofs.lemmas.Bool.{cases_lt}
use Rattle.std.proofs.lemmas.List.{get_or_default}
use Rattle.route_labels.specs.Meaning.{setting_of}
use Rattle.concatenate.specs.Fit.{MayJoin}
use Rattle.concatenate.proofs.LeastLemmas.{no_label}
use Rattle.listing_tests.proofs.fits.may_all_join.Goals as goal

pub loop-label-preserved : goal.loop-label-preserved
loop-label-preserved c k d less =
    let labels = c.args.labels.now in
    let place = c.loop-label.label-index in
    elim (cases_lt k place) [
      | inl low ↦ c.loop-label.invariant k d low
      | inr past ↦
          let last : place ≡ k = omega (arith, less, past) in
          subst (MayJoin (setting_of c.args.field)) (get_or_default labels place no_label d c.loop-label-test.true ∙ ap (λ (n : ℕ). get_or labels n d) last)
          (c.may_join.ensures c.if-not-may_join.false)
    ]
