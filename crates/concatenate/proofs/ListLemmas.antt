-- The part of a list from the first label at a vertex to the last.
use Rattle.std.proofs.Common.{◌≡◌, ◌≢◌, ℕ, ◌+◌, ◌-◌, ◌<◌, ◌≤◌, List, length, get_or, take, drop, inl, inr, ◌∙◌, ap, arith, length-drop}
use Rattle.std.specs.Prelude.{All, Contains, slice_index_or}
use Rattle.std.proofs.lemmas.Bool.{cases_lt}
use Rattle.std.proofs.lemmas.List.{get_or-drop, get_or-take, length-take-le}
use Rattle.std.proofs.lemmas.List.Elements.{All-contains, All-contains_itself, All-weaker}
use Rattle.label_rules.specs.declared.label.Label.{Label}

pub in_part : (xs : List Label) (first end v : ℕ) → end ≤ length xs → ((k : ℕ) (d : Label) → k < first → (slice_index_or xs k d).vertex ≢ v)
    → ((k : ℕ) (d : Label) → end ≤ k → k < length xs → (slice_index_or xs k d).vertex ≢ v) → (l : Label) → Contains xs l → l.vertex ≡ v → Contains (take (end - first) (drop first xs)) l
in_part xs first end v within before behind l h at = elim (cases_lt h.0 first) [
  | inl less ↦ absurd (before h.0 l less (ap (λ (x : Label). x.vertex) h.2 ∙ at))
  | inr low ↦ elim (cases_lt h.0 end) [
    | inl high ↦
        let place : first + (h.0 - first) ≡ h.0 = omega (arith, low) in
        let size = length-take-le (end - first) (drop first xs) (omega (arith, length-drop first xs, within)) in (
          h.0 - first,
          omega (arith, size, low, high),
          get_or-take (end - first) (drop first xs) (h.0 - first) l (omega (arith, low, high)) ∙ (get_or-drop first xs (h.0 - first) l ∙ (ap (λ (k : ℕ). get_or xs k l) place ∙ h.2)),
        )
    | inr past ↦ absurd (behind h.0 l past h.1 (ap (λ (x : Label). x.vertex) h.2 ∙ at))
  ]
]

-- what holds of all of a list holds of a part
pub all_in_part : (P : Label → Type 0) (xs ys : List Label) → ((l : Label) → Contains ys l → Contains xs l) → All P xs → All P ys
all_in_part P xs ys among all = All-weaker (Contains ys) P (λ l h. All-contains P xs l all (among l h)) ys (All-contains_itself ys)
