-- The first quantity whose multiplier needs an open side is a row.
use Rattle.std.proofs.Common.{◌≡◌, ℕ, ◌+◌, ◌<◌, ℤ, List, ◌∷◌, ◌++◌, length, map, take, drop, get_or, Option, None, Some, All, refl, sym, ◌∙◌, ap, subst, append_assoc, add-one, arith}
use Rattle.std.specs.Prelude.{IsSome}
use Rattle.std.specs.List.{range_with_len}
use Rattle.std.proofs.lemmas.List.{take-append-drop}
use Rattle.std.proofs.lemmas.List.Elements.{All-append, All-map}
use Rattle.std.proofs.lemmas.List.FromFn.{get_or-map-range_with_len, length-map-range_with_len, take-map-range_with_len}
use Rattle.std.proofs.Math.Seq.{drop-cons}
use Rattle.path_graph.specs.Fit.{int_at}
use Rattle.rank1_cuts.specs.declared.cut.Cut.{Cut}
use Rattle.route_model.specs.declared.multipliers.Mult.{Mult}
use Rattle.route_model.specs.declared.multipliers.Quantity.{Quantity}
use Rattle.route_model.specs.declared.multipliers.Quantity.TheVariants.{Var as OfVar, Row as OfRow, Set as OfSet, Cut as OfCut, Paths as OfPaths}
use Rattle.route_model.specs.declared.places.Boxes.{Boxes}
use Rattle.route_model.specs.Parts.{ModelParts}
use Rattle.route_model.specs.Places.{span_at}
use Rattle.multipliers.specs.Priced.{IsFirstOpen, IsOpenRow}
use Rattle.multipliers.specs.Quantities.{term_of}
use Rattle.multipliers.proofs.DualityLemmas.{All-range, defined_in}

-- a list is what stands before a place, the item there, and what stands after it
parted : {X : Type 0} (xs : List X) (i : ℕ) (d : X) → i < length xs → xs ≡ take i xs ++ get_or xs i d ∷ drop (i + 1) xs
parted {X} xs i d below = sym (take-append-drop i xs) ∙ ap (λ (ys : List X). take i xs ++ ys) (let l : i < length xs = below in rw (add-one, drop-cons xs i d))

not_some : (o : Option ℤ) → (IsSome o → ⊥) → o ≡ None
not_some None h = refl
not_some (Some x) h = absurd (h refl)

pub first_open : (m : ModelParts) (cuts : List Cut) (boxes : Boxes) (mult : Mult) (i : ℕ) → IsOpenRow m cuts boxes mult i → IsFirstOpen m cuts boxes mult (OfRow i)
first_open m cuts boxes mult i is =
    let vars : List Quantity = map (λ j. OfVar j) (range_with_len 0 (length m.vars)) in
    let rows : List Quantity = map (λ k. OfRow k) (range_with_len 0 (length m.rows)) in
    let others : List Quantity = map (λ s. OfSet s) (range_with_len 0 m.sets) ++ (map (λ c. OfCut c) (range_with_len 0 (length cuts)) ++ map (λ g. OfPaths g) (range_with_len 0 (length m.graphs))) in
    let P : Quantity → Type 0 = λ q. IsSome (term_of m cuts boxes mult q) in
    let inside : i < length rows = omega (arith, is.within, length-map-range_with_len (λ k. OfRow k) 0 (length m.rows)) in
    let here : get_or rows i (OfRow 0) ≡ OfRow i = get_or-map-range_with_len (λ k. OfRow k) 0 (length m.rows) i i (OfRow 0) is.within (omega arith) in
    let split : rows ≡ take i rows ++ OfRow i ∷ drop (i + 1) rows = parted rows i (OfRow 0) inside ∙ ap (λ (q : Quantity). take i rows ++ q ∷ drop (i + 1) rows) here in
    let first : take i rows ≡ map (λ k. OfRow k) (range_with_len 0 i) = take-map-range_with_len (λ k. OfRow k) 0 (length m.rows) i (omega (arith, is.within)) in
    let each_var : All P vars = All-map P (λ j. OfVar j) (range_with_len 0 (length m.vars)) (All-range (λ j. P (OfVar j)) (length m.vars) (λ j l. defined_in (int_at mult.vars j) (span_at boxes.vars j).low (span_at boxes.vars j).high)) in
    let each_row : All P (take i rows) = subst (λ (qs : List Quantity). All P qs) (sym first) (All-map P (λ k. OfRow k) (range_with_len 0 i) (All-range (λ k. P (OfRow k)) i (λ k l. is.before k l))) in
    record {
      before = vars ++ take i rows;
      after = drop (i + 1) rows ++ others;
      order =
          ap (λ (qs : List Quantity). vars ++ (qs ++ others)) split
          ∙ (ap (λ (qs : List Quantity). vars ++ qs) (append_assoc (take i rows) (OfRow i ∷ drop (i + 1) rows) others)
          ∙ sym (append_assoc vars (take i rows) (OfRow i ∷ (drop (i + 1) rows ++ others))));
      defined = All-append P vars (take i rows) each_var each_row;
      open_side = not_some (term_of m cuts boxes mult (OfRow i)) is.fails;
    }
