use Rattle.std.proofs.Common.{◌<◌, ◌^◌, ℕ, pos, Option, subst, arith}
use Rattle.std.specs.Prelude.{IfSome}
use Rattle.std.proofs.lemmas.Int.{ints}
use Rattle.path_graph.specs.declared.limits.TheConstants.{MAX_SETS}
use Rattle.path_graph.specs.Within.{IsWithin}
use Rattle.route_labels.proofs.ArrivalLemmas.{wide_is}
use Rattle.route_labels.proofs.field.visit_cost.Goals as goal

pub returns-in-Some-clause-range : goal.returns-in-Some-clause-range
returns-in-Some-clause-range c =
    let small = subst (λ (o : Option ℕ). IfSome o (λ s. s < MAX_SETS)) c.in-Some.is c.requires.set in
    let near : IsWithin (2 ^ 54) c.at.result.now = subst (IsWithin (2 ^ 54)) (c.at.ensures (pos 0)) (c.requires.agree.costs.sets c.in-Some.s small) in
    let low = near.0 in
    let high = near.1 in
    let same = wide_is c.at.result.now (omega (arith, ints, low), omega (arith, ints, high)) in
    (omega (arith, ints, low, same), omega (arith, ints, high, same))
