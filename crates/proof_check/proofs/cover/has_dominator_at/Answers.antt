use Rattle.std.proofs.Common.{refl, arith}
use Rattle.std.specs.Prelude.{slice_index}
use Rattle.std.proofs.lemmas.Bool.{false≢true}
use Rattle.route_labels.specs.Meaning.{setting_of}
use Rattle.proof_check.specs.Ways.{direction_of}
use Rattle.proof_check.proofs.CoverLemmas.{covers_at, none_covers}
use Rattle.proof_check.proofs.PlaceLemmas.{place_within}
use Rattle.proof_check.proofs.cover.has_dominator_at.Goals as goal

pub returns-then-dominates : goal.returns-then-dominates
returns-then-dominates c = (
  λ h. covers_at (direction_of c.args.backward) (setting_of c.args.field.now) c.args.labels.now c.args.label.now (slice_index c.args.places.now c.loop-place.place-index)
      (place_within c.args.labels.now c.args.label.now.vertex c.args.places.now c.requires.places c.loop-place.place-index c.loop-place-test.true) (c.if-dominates.ensures.0 refl),
  λ h. refl,
)

pub returns : goal.returns
returns c = (
  λ no. absurd (false≢true no),
  λ h. absurd (none_covers (direction_of c.args.backward) (setting_of c.args.field.now) c.args.labels.now c.args.label.now c.args.places.now c.requires.places
      (λ j l. c.loop-place.invariant j (omega (arith, l, c.loop-place-test.false))) h),
)
