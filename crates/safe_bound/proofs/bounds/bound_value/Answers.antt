use Rattle.std.proofs.Common.{ℤ, List, FitsSigned, to_z, of_z, subst, arith}
use Rattle.std.specs.Int.{w128}
use Rattle.std.proofs.lemmas.Int.{ints, to_z-of_z}
use Rattle.route_model.specs.declared.places.Span.{Span}
use Rattle.safe_bound.specs.Bounds.{IsBound}
use Rattle.safe_bound.proofs.BoundLemmas.{bound_told}
use Rattle.safe_bound.proofs.bounds.bound_value.Goals as goal

pub returns-clause-bound : goal.returns-clause-bound
returns-clause-bound c =
    let base : ℤ = c.args.priced.now.base in
    let near : FitsSigned w128 base = omega (arith, ints, c.requires.priced.base.0, c.requires.priced.base.1) in
    let told = subst (λ (spans : List Span). IsBound spans c.args.leasts.now (to_z w128 (of_z w128 base)) c.bound_from.result) c.as_slice.ensures c.bound_from.ensures.bound in
    subst (λ (b : ℤ). IsBound c.args.boxes.now.paths c.args.leasts.now b c.bound_from.result) (to_z-of_z w128 base near) told

pub returns-clause-holds : goal.returns-clause-holds
returns-clause-holds c = bound_told c.args.priced.now c.args.boxes.now c.args.leasts.now c.bound_from.result (returns-clause-bound c)
