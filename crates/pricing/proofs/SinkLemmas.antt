-- The least cost of a label at the sink, label by label.
use Rattle.std.proofs.Common.{◌≡◌, ℕ, ◌+◌, ◌<◌, ◌≤◌, ℤ, ◌≤ℤ◌, ◌⊎◌, Option, None, Some, List, [], ◌∷◌, ◌++◌, length, get_or, take, inl, inr, refl, sym, ◌∙◌, ap, subst, arith}
use Rattle.std.specs.Prelude.{Contains}
use Rattle.std.proofs.lemmas.Int.{ints}
use Rattle.std.proofs.lemmas.List.{take_all, take_more}
use Rattle.std.proofs.lemmas.List.Elements.{Contains-append_left, Contains-append_right, Contains-append_cases, Contains-push, Contains-push_cases}
use Rattle.label_rules.specs.declared.label.Label.{Label}
use Rattle.label_rules.specs.Labels.{Setting}
use Rattle.concatenate.specs.Costs.{IsLeastWith, lesser_of}
use Rattle.concatenate.proofs.LeastLemmas.{least_of_both, least_same}
use Rattle.pricing.specs.Tables.{IsSinkCost}

-- the cost of one label
one_least : (sink : ℕ) (l : Label) → l.vertex ≡ sink → IsLeastWith (IsSinkCost sink (l ∷ [])) (Some l.cost)
one_least sink l at = (
  record { label = l; listed = Contains-push [] l; at_sink = at; same = refl },
  λ x h. elim (Contains-push_cases [] l h.label h.listed) [
    | inl k ↦ let within = k.1 in absurd (omega (arith, within))
    | inr e ↦ let same = ap (λ (m : Label). m.cost) e in let cost = h.same in omega (arith, ints, same, cost)
  ],
)

-- one label more
pub with_label : (sink : ℕ) (xs : List Label) (l : Label) (r : Option ℤ) → l.vertex ≡ sink → IsLeastWith (IsSinkCost sink xs) r → IsLeastWith (IsSinkCost sink (xs ++ l ∷ [])) (lesser_of r (Some l.cost))
with_label sink xs l r at p = least_of_both (IsSinkCost sink xs) (IsSinkCost sink (l ∷ [])) (IsSinkCost sink (xs ++ l ∷ []))
    (λ x h. record { label = h.label; listed = Contains-append_left xs (l ∷ []) h.label h.listed; at_sink = h.at_sink; same = h.same })
    (λ x h. record { label = h.label; listed = Contains-append_right xs (l ∷ []) h.label h.listed; at_sink = h.at_sink; same = h.same })
    (λ x h. elim (Contains-append_cases xs (l ∷ []) h.label h.listed) [
      | inl k ↦ inl (record { label = h.label; listed = k; at_sink = h.at_sink; same = h.same })
      | inr k ↦ inr (record { label = h.label; listed = k; at_sink = h.at_sink; same = h.same })
    ])
    r (Some l.cost) p (one_least sink l at)

-- which stands elsewhere
pub without_label : (sink : ℕ) (xs : List Label) (l : Label) (r : Option ℤ) → ¬ (l.vertex ≡ sink) → IsLeastWith (IsSinkCost sink xs) r → IsLeastWith (IsSinkCost sink (xs ++ l ∷ [])) r
without_label sink xs l r apart p = least_same (IsSinkCost sink xs) (IsSinkCost sink (xs ++ l ∷ [])) r p
    (λ x h. record { label = h.label; listed = Contains-append_left xs (l ∷ []) h.label h.listed; at_sink = h.at_sink; same = h.same })
    (λ x h. elim (Contains-push_cases xs l h.label h.listed) [
      | inl k ↦ record { label = h.label; listed = k; at_sink = h.at_sink; same = h.same }
      | inr e ↦ absurd (apart (subst (λ (m : Label). m.vertex ≡ sink) (sym e) h.at_sink))
    ])

-- item by item
pub with_item : (sink : ℕ) (xs : List Label) (i : ℕ) (d : Label) (r next : Option ℤ) → i < length xs → IsLeastWith (IsSinkCost sink (take i xs)) r → (get_or xs i d).vertex ≡ sink
    → next ≡ lesser_of r (Some (get_or xs i d).cost) → IsLeastWith (IsSinkCost sink (take (i + 1) xs)) next
with_item sink xs i d r next within p at is =
    subst (λ (ys : List Label). IsLeastWith (IsSinkCost sink ys) next) (sym (take_more xs i d within))
    (subst (IsLeastWith (IsSinkCost sink (take i xs ++ get_or xs i d ∷ []))) (sym is) (with_label sink (take i xs) (get_or xs i d) r at p))

pub without_item : (sink : ℕ) (xs : List Label) (i : ℕ) (d : Label) (r : Option ℤ) → i < length xs → IsLeastWith (IsSinkCost sink (take i xs)) r → ¬ ((get_or xs i d).vertex ≡ sink)
    → IsLeastWith (IsSinkCost sink (take (i + 1) xs)) r
without_item sink xs i d r within p apart =
    subst (λ (ys : List Label). IsLeastWith (IsSinkCost sink ys) r) (sym (take_more xs i d within)) (without_label sink (take i xs) (get_or xs i d) r apart p)

pub none_yet : (sink : ℕ) → IsLeastWith (IsSinkCost sink []) None
none_yet sink x h = let l = h.listed.1 in absurd (omega (arith, l))

pub all_taken : (sink : ℕ) (xs : List Label) (i : ℕ) (r : Option ℤ) → length xs ≤ i → IsLeastWith (IsSinkCost sink (take i xs)) r → IsLeastWith (IsSinkCost sink xs) r
all_taken sink xs i r past p = subst (λ (ys : List Label). IsLeastWith (IsSinkCost sink ys) r) (take_all i xs past) p
