use Rattle.std.proofs.Common.{ℤ, w64, List, Option, sym, subst}
use Rattle.std.proofs.lemmas.Int.{to_z-of_z}
use Rattle.safe_bound.specs.Bounds.{Closes, IsBound}
use Rattle.safe_bound.specs.Promise.{LeastsFit}
use Rattle.proof_rules.specs.Proofs.{ClosesAgainst}
use Rattle.proof_check.proofs.BoundLemmas.{bound_is, closes_told, leasts_fit}
use Rattle.proof_check.proofs.bound.closes_place.Goals as goal

pub bound_value-bound-requires-clause-leasts : goal.bound_value-bound-requires-clause-leasts
bound_value-bound-requires-clause-leasts c =
    subst (λ (xs : List (Option ℤ)). LeastsFit c.args.at.now.spot.now.boxes.paths xs) (sym c.as_slice.ensures) (leasts_fit c.args.at.now c.requires)

pub returns : goal.returns
returns c =
    let at = c.args.at.now in
    let spans = at.spot.now.boxes.paths in
    let told : IsBound spans at.checked.now.leasts at.checked.now.priced.base c.bound_value-bound.result =
    subst (λ (xs : List (Option ℤ)). IsBound spans xs at.checked.now.priced.base c.bound_value-bound.result) c.as_slice.ensures c.bound_value-bound.ensures.bound in
    let same = closes_told spans at.checked.now.leasts at.checked.now.priced.base c.args.z c.bound_value-bound.result told in
    let read = to_z-of_z w64 c.args.z c.ranges.z in
    let is = bound_is at c.requires in (
      λ h. subst (ClosesAgainst c.args.z) is (same.0 (subst (Closes c.bound_value-bound.result) read (c.closes.ensures.closes.0 h))),
      λ h. c.closes.ensures.closes.1 (subst (Closes c.bound_value-bound.result) (sym read) (same.1 (subst (ClosesAgainst c.args.z) (sym is) h))),
    )
