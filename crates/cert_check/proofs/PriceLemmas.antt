-- Where a multiplier needs an open side, not every term is defined.
use Rattle.std.proofs.Common.{List, ◌∷◌, refl, subst, sym, arith}
use Rattle.std.specs.Prelude.{IsSome, Contains}
use Rattle.std.proofs.lemmas.List.Elements.{All-contains, Contains-append_right}
use Rattle.rank1_cuts.specs.declared.cut.Cut.{Cut}
use Rattle.route_model.specs.declared.multipliers.Mult.{Mult}
use Rattle.route_model.specs.declared.multipliers.Quantity.{Quantity}
use Rattle.route_model.specs.declared.places.Boxes.{Boxes}
use Rattle.route_model.specs.Parts.{ModelParts}
use Rattle.multipliers.specs.Priced.{IsFirstOpen}
use Rattle.multipliers.specs.Quantities.{AreDefined, quantities, term_of}

pub open_none : (m : ModelParts) (cuts : List Cut) (boxes : Boxes) (mult : Mult) (q : Quantity) → IsFirstOpen m cuts boxes mult q → ¬ (AreDefined m cuts boxes mult)
open_none m cuts boxes mult q first defined =
    let here : Contains (q ∷ first.after) q = (0, omega arith, refl) in
    let among = subst (λ (qs : List Quantity). Contains qs q) (sym first.order) (Contains-append_right first.before (q ∷ first.after) q here) in
    let some : IsSome (term_of m cuts boxes mult q) = All-contains (λ (r : Quantity). IsSome (term_of m cuts boxes mult r)) (quantities m cuts) q defined among in
    cc
