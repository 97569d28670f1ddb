use Rattle.std.proofs.Common.{◌≡◌, ℤ, List, Option, sym, ◌∙◌, subst}
use Rattle.std.specs.Int.{w64}
use Rattle.std.proofs.lemmas.Int.{to_z-of_z}
use Rattle.safe_bound.specs.Bounds.{limit_of}
use Rattle.safe_bound.specs.Promise.{LeastsFit}
use Rattle.proof_check.proofs.BoundLemmas.{leasts_fit, paths_count}
use Rattle.proof_check.proofs.bound.limit_at.Goals as goal

pub walk_limit-requires-clause-leasts : goal.walk_limit-requires-clause-leasts
walk_limit-requires-clause-leasts c =
    subst (λ (xs : List (Option ℤ)). LeastsFit c.args.at.now.spot.now.boxes.paths xs) (sym c.as_slice.ensures) (leasts_fit c.args.at.now c.requires.proved)

pub returns-clause-limit : goal.returns-clause-limit
returns-clause-limit c =
    let at = c.args.at.now in
    let paths = at.spot.now.boxes.paths in
    let checked = c.requires.proved.ready.checked in
    let leasts : c.as_slice.result.now ≡ _ = c.as_slice.ensures ∙ checked.leasts in
    let read = to_z-of_z w64 c.args.z c.ranges.z in
    c.walk_limit.ensures.limit ∙ (λ i. limit_of (paths_count at c.requires.proved i) paths (leasts i) (checked.priced.base i) c.args.g (read i))
