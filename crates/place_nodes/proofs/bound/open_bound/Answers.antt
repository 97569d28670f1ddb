use Rattle.std.proofs.Common.{◌≡◌, ℤ, Option, List, w64, sym, ap, subst, ◌∙◌, rules}
use Rattle.std.proofs.lemmas.Int.{to_z-of_z}
use Rattle.safe_bound.specs.Bounds.{IsBound}
use Rattle.safe_bound.specs.Promise.{LeastsFit}
use Rattle.place_nodes.specs.Bounds.{IsOpenValue}
use Rattle.place_nodes.proofs.BoundLemmas.{leasts_fit, leaves_open, table_leasts}
use Rattle.place_nodes.proofs.bound.open_bound.Goals as goal

pub bound_value-bound-requires-clause-leasts : goal.bound_value-bound-requires-clause-leasts
bound_value-bound-requires-clause-leasts c =
    let t = c.args.task.now in
    let k = c.args.known.now in
    let is : c.as_slice-2.result.now ≡ table_leasts k.proof.tables = c.as_slice-2.ensures.value ∙ (c.in_ok-leasts.ensures ∙ ap table_leasts c.as_slice.ensures) in
    subst (λ (xs : List (Option ℤ)). LeastsFit t.spot.now.boxes.paths xs) (sym is) (leasts_fit t k c.requires.task c.requires.known)

pub returns : goal.returns
returns c =
    let t = c.args.task.now in
    let k = c.args.known.now in
    let is : c.as_slice-2.result.now ≡ table_leasts k.proof.tables = c.as_slice-2.ensures.value ∙ (c.in_ok-leasts.ensures ∙ ap table_leasts c.as_slice.ensures) in
    let told : IsBound t.spot.now.boxes.paths (table_leasts k.proof.tables) k.priced.base c.bound_value-bound.result =
    subst (λ (xs : List (Option ℤ)). IsBound t.spot.now.boxes.paths xs k.priced.base c.bound_value-bound.result) is c.bound_value-bound.ensures.bound in
    let value : IsOpenValue c.bound_value-bound.result t.z c.open_value.result =
    subst (λ (z : ℤ). IsOpenValue c.bound_value-bound.result z c.open_value.result) (to_z-of_z w64 t.z (search rules)) c.open_value.ensures in
    leaves_open t k c.requires.task c.requires.known c.bound_value-bound.result c.open_value.result told value
