use Rattle.std.proofs.Common.{ℤ, FitsSigned, w64, length, ◌∙◌, arith}
use Rattle.std.specs.Int.{w128}
use Rattle.std.proofs.lemmas.Int.{ints, to_z-of_z}
use Rattle.safe_bound.specs.Bounds.{limit_of}
use Rattle.safe_bound.proofs.BoundLemmas.{limit_told}
use Rattle.safe_bound.proofs.limits.walk_limit.Goals as goal

pub returns-clause-limit : goal.returns-clause-limit
returns-clause-limit c =
    let base : ℤ = c.args.priced.now.base in
    let near : FitsSigned w128 base = omega (arith, ints, c.requires.priced.base.0, c.requires.priced.base.1) in
    c.limit_from.ensures.limit
    ∙ (λ i. limit_of (length (c.as_slice.ensures i)) (c.as_slice.ensures i) c.args.leasts.now (to_z-of_z w128 base near i) c.args.g (to_z-of_z w64 c.args.z c.ranges.z i))

pub returns-clause-holds : goal.returns-clause-holds
returns-clause-holds c = limit_told c.args.priced.now c.args.boxes.now c.args.leasts.now c.args.g c.args.z c.limit_from.result (returns-clause-limit c)
