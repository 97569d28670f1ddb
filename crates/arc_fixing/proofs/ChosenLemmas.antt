-- Items that are chosen from a list, and from two lists one behind the other.
use Rattle.std.proofs.Common.{◌≡◌, ℕ, inl, inr, List, [], ◌∷◌, ◌++◌, map, append_assoc, refl, sym, ◌∙◌, ap, subst}
use Rattle.std.proofs.lemmas.List.{append-nil}
use Rattle.route_model.specs.PlaceParts.{NamedArc}
use Rattle.arc_fixing.specs.Chosen.{AppendsChosen, IsChosen}

module _ {X : Type 0} (P : X → Type 0) where
  pub chosen_append : (xs ys us vs : List X) → IsChosen P xs ys → IsChosen P us vs → IsChosen P (xs ++ us) (ys ++ vs)
  chosen_append [] ys us vs h k = subst (λ (zs : List X). IsChosen P us (zs ++ vs)) (sym h) k
  chosen_append (x ∷ xs) ys us vs h k = elim h [
    | inl left ↦ inl (left.0, chosen_append xs ys us vs left.1 k)
    | inr next ↦ inr (next.0 ++ vs, next.1, ap (λ (zs : List X). zs ++ vs) next.2, chosen_append xs next.0 us vs next.3 k)
  ]

  one_chosen : (x : X) → P x → IsChosen P (x ∷ []) (x ∷ [])
  one_chosen x holds = inr ([], holds, refl, refl)

  one_passed : (x : X) → ¬ (P x) → IsChosen P (x ∷ []) []
  one_passed x fails = inl (fails, refl)

  pub nothing_appended : (old : List X) → AppendsChosen P [] old old
  nothing_appended old = record { added = []; is = sym (append-nil old); chosen = refl }

  pub item_chosen : (items old new next : List X) (x : X) → AppendsChosen P items old new → P x → next ≡ new ++ x ∷ [] → AppendsChosen P (items ++ x ∷ []) old next
  item_chosen items old new next x h holds e = record {
    added = h.added ++ x ∷ [];
    is = e ∙ (ap (λ (xs : List X). xs ++ x ∷ []) h.is ∙ append_assoc old h.added (x ∷ []));
    chosen = chosen_append items h.added (x ∷ []) (x ∷ []) h.chosen (one_chosen x holds);
  }

  pub item_passed : (items old new : List X) (x : X) → AppendsChosen P items old new → ¬ (P x) → AppendsChosen P (items ++ x ∷ []) old new
  item_passed items old new x h fails = record {
    added = h.added;
    is = h.is;
    chosen = subst (λ (ys : List X). IsChosen P (items ++ x ∷ []) ys) (append-nil h.added) (chosen_append items h.added (x ∷ []) [] h.chosen (one_passed x fails));
  }

  pub more_chosen : (items more old new : List X) → IsChosen P items old → AppendsChosen P more old new → IsChosen P (items ++ more) new
  more_chosen items more old new before h = subst (IsChosen P (items ++ more)) (sym h.is) (chosen_append items old more h.added before h.chosen)

-- a property that says the same of the arcs of a graph chooses the same
pub same_chosen : (P Q : NamedArc → Type 0) (g : ℕ) (arcs : List ℕ) (ys : List NamedArc) → ((a : ℕ) → P (g, a) → Q (g, a)) → ((a : ℕ) → Q (g, a) → P (g, a))
    → IsChosen P (map (λ a. (g, a)) arcs) ys → IsChosen Q (map (λ a. (g, a)) arcs) ys
same_chosen P Q g [] ys to from h = h
same_chosen P Q g (a ∷ arcs) ys to from h = elim h [
  | inl left ↦ inl (λ q. left.0 (from a q), same_chosen P Q g arcs ys to from left.1)
  | inr next ↦ inr (next.0, to a next.1, next.2, same_chosen P Q g arcs next.0 to from next.3)
]
