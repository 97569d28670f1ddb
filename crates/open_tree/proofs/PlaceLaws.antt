-- An item that is open at a place.
use Rattle.std.proofs.Common.{◌≡◌, ℕ, ◌+◌, ◌<◌, List, [], ◌∷◌, ◌++◌, All, length, length-append, take, drop, map, ap, subst, ◌∙◌, arith}
use Rattle.std.proofs.lemmas.List.{map-append, take-map, drop-map, length-map}
use Rattle.std.proofs.lemmas.List.Elements.{All-head, All-tail}
use Rattle.open_tree.specs.Open.{opens, see}
use Rattle.open_tree.specs.Slots.{IsOpenAt}
use Rattle.open_tree.specs.declared.slots.Slot.{Slot}
use Rattle.open_tree.specs.declared.slots.Slot.TheVariants.{Open}
use Rattle.open_tree.proofs.OpenLaws.{opens_append}

opens_parts : {I N : Type 0} (slots : List (Slot I N)) (at : ℕ) (i : I) → IsOpenAt slots at i
    → opens slots ≡ opens (take at slots) ++ (i ∷ opens (drop (at + 1) slots))
opens_parts {I} {N} slots at i is =
    ap (λ (s : List (Slot I N)). opens s) is.slot ∙ opens_append (take at slots) (Open i ∷ drop (at + 1) slots)

all_last : {I : Type 0} (P : I → Type 0) (xs ys : List I) → All P (xs ++ ys) → All P ys
all_last P [] ys all = all
all_last P (x ∷ xs) ys all = all_last P xs ys (All-tail P x (xs ++ ys) all)

-- what holds of each open item holds of it
pub open_among : {I N : Type 0} (P : I → Type 0) (slots : List (Slot I N)) (at : ℕ) (i : I) → IsOpenAt slots at i
    → All P (opens slots) → P i
open_among {I} P slots at i is all =
    All-head P i (opens (drop (at + 1) slots)) (all_last P (opens (take at slots)) (i ∷ opens (drop (at + 1) slots))
    (subst (λ (js : List I). All P js) (opens_parts slots at i is) all))

pub open_some : {I N : Type 0} (slots : List (Slot I N)) (at : ℕ) (i : I) → IsOpenAt slots at i → 0 < length (opens slots)
open_some {I} slots at i is =
    let parts = ap (λ (js : List I). length js) (opens_parts slots at i is)
    ∙ length-append (opens (take at slots)) (i ∷ opens (drop (at + 1) slots)) in
    omega (arith, parts)

-- it is open at the same place where the slots are read as others
pub see_open_at : {I N J M : Type 0} (f : I → J) (g : N → M) (slots : List (Slot I N)) (at : ℕ) (i : I)
    → IsOpenAt slots at i → IsOpenAt (map (see f g) slots) at (f i)
see_open_at {I} {N} {J} {M} f g slots at i is = record {
  within = let long = length-map slots (see f g) in omega (arith, long, is.within);
  slot = ap (λ (s : List (Slot I N)). map (see f g) s) is.slot
      ∙ (map-append (see f g) (take at slots) (Open i ∷ drop (at + 1) slots)
      ∙ simp (take-map, drop-map));
}
