-- Slots whose items and nodes are read as others.
use Rattle.std.proofs.Common.{◌≡◌, ℕ, ◌+◌, List, [], ◌∷◌, ◌++◌, take, drop, map, refl, sym, ap, ◌∙◌}
use Rattle.std.proofs.lemmas.List.{map-append, take-map, drop-map}
use Rattle.open_tree.specs.Open.{opens, mades, slots_of, see}
use Rattle.open_tree.specs.declared.slots.Slot.{Slot}
use Rattle.open_tree.specs.declared.slots.Slot.TheVariants.{Open, Made}

module _ {I N J M : Type 0} (f : I → J) (g : N → M) where
  pub see_opens : (slots : List (Slot I N)) → opens (map (see f g) slots) ≡ map f (opens slots)
  see_opens [] = refl
  see_opens (Open i ∷ slots) = ap (λ (js : List J). f i ∷ js) (see_opens slots)
  see_opens (Made n ∷ slots) = see_opens slots

  pub see_mades : (slots : List (Slot I N)) → mades (map (see f g) slots) ≡ map g (mades slots)
  see_mades [] = refl
  see_mades (Open i ∷ slots) = see_mades slots
  see_mades (Made n ∷ slots) = ap (λ (ms : List M). g n ∷ ms) (see_mades slots)

  see_open : (is : List I) → map (see f g) (map (λ i. Open i) is) ≡ map (λ j. Open j) (map f is)
  see_open [] = refl
  see_open (i ∷ is) = ap (λ (s : List (Slot J M)). Open (f i) ∷ s) (see_open is)

  pub see_slots : (ns : List N) (is : List I) → map (see f g) (slots_of ns is) ≡ slots_of (map g ns) (map f is)
  see_slots [] is = see_open is
  see_slots (n ∷ ns) is = ap (λ (s : List (Slot J M)). Made (g n) ∷ s) (see_slots ns is)

  -- a tree that takes an open place does so where the slots are read as others
  pub see_put : (slots : List (Slot I N)) (at : ℕ) (ns : List N) (is : List I)
      → map (see f g) (take at slots ++ (slots_of ns is ++ drop (at + 1) slots))
      ≡ take at (map (see f g) slots) ++ (slots_of (map g ns) (map f is) ++ drop (at + 1) (map (see f g) slots))
  see_put slots at ns is =
      map-append (see f g) (take at slots) (slots_of ns is ++ drop (at + 1) slots)
      ∙ (ap (λ (s : List (Slot J M)). s ++ map (see f g) (slots_of ns is ++ drop (at + 1) slots)) (sym (take-map (see f g) at slots))
      ∙ ap (λ (s : List (Slot J M)). take at (map (see f g) slots) ++ s)
      (map-append (see f g) (slots_of ns is) (drop (at + 1) slots)
      ∙ (ap (λ (s : List (Slot J M)). s ++ map (see f g) (drop (at + 1) slots)) (see_slots ns is)
      ∙ ap (λ (s : List (Slot J M)). slots_of (map g ns) (map f is) ++ s) (sym (drop-map (see f g) (at + 1) slots)))))
