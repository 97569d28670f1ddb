-- The least value of open places.
use Rattle.std.proofs.Common.{◌≡◌, ◌≢◌, ◌⊎◌, ◌<◌, ◌≤ℤ◌, ℕ, ◌+◌, length, take, get_or, ap, ℤ, Option, None, Some, MatchOption, List, [], ◌∷◌, ◌++◌, inl, inr, sym, subst, ◌∙◌, arith}
use Rattle.std.specs.Int.{int_min}
use Rattle.std.proofs.lemmas.Int.{by_lt_z, clamps, ints}
use Rattle.std.proofs.lemmas.List.{take_more}
use Rattle.std.proofs.lemmas.List.Elements.{All-push, All-weaker}
use Rattle.proof_rules.specs.Grows.{HoldsForSome}
use Rattle.proof_rules.proofs.GrowsLemmas.{some_first, some_last}
use Rattle.open_tree.specs.Open.{opens}
use Rattle.open_tree.specs.declared.slots.Slot.{Slot}
use Rattle.open_tree.specs.declared.slots.Slot.TheVariants.{Made, Open}
use Rattle.open_tree.proofs.OpenLaws.{opens_append}
use Rattle.open_tree.proofs.SlotLemmas.{opens_at_made}
use Rattle.made_nodes.specs.declared.node.MadeNode.{MadeNode}
use Rattle.search_tree.specs.declared.places.OpenPlace.{OpenPlace}
use Rattle.search_tree.specs.declared.search.Search.{Search}
use Rattle.search_tree.specs.Bounds.{IsBoundOf, IsLeastValue}
use Rattle.search_tree.specs.Search.{opens_in}
use Rattle.search_tree.proofs.GrowthLemmas.{all_one}

-- the lesser of two numbers is one of them
min_either : (x y : ℤ) → (int_min x y ≡ x) ⊎ (int_min x y ≡ y)
min_either x y = by_lt_z x y (λ less. inl (omega (arith, ints, clamps, less))) (λ more. inr (omega (arith, ints, clamps, more)))

min_first : (x y : ℤ) → int_min x y ≤ℤ x
min_first x y = omega (arith, ints, clamps)

min_last : (x y : ℤ) → int_min x y ≤ℤ y
min_last x y = omega (arith, ints, clamps)

most_through : (x y z : ℤ) → x ≤ℤ y → y ≤ℤ z → x ≤ℤ z
most_through x y z h k = omega (arith, ints, h, k)

at_most : (x y : ℤ) → x ≡ y → x ≤ℤ y
at_most x y e = omega (arith, ints, e)

-- ---- one place more
first_value : (p : OpenPlace) (v : ℤ) → v ≡ p.value → IsLeastValue (p ∷ []) v
first_value p v is = record {
  values = all_one (λ (q : OpenPlace). v ≤ℤ q.value) p (at_most v p.value is);
  reached = inl is;
}

reached_more : (places : List OpenPlace) (old : ℤ) (p : OpenPlace) (v : ℤ) → HoldsForSome (λ (q : OpenPlace). old ≡ q.value) places → v ≡ int_min old p.value
    → (int_min old p.value ≡ old) ⊎ (int_min old p.value ≡ p.value) → HoldsForSome (λ (q : OpenPlace). v ≡ q.value) (places ++ p ∷ [])
reached_more places old p v some is (inl e) =
    some_first (λ (q : OpenPlace). v ≡ q.value) places (p ∷ []) (subst (λ (x : ℤ). HoldsForSome (λ (q : OpenPlace). x ≡ q.value) places) (sym (is ∙ e)) some)
reached_more places old p v some is (inr e) = some_last (λ (q : OpenPlace). v ≡ q.value) places (p ∷ []) (inl (is ∙ e))

less_value : (places : List OpenPlace) (old : ℤ) (p : OpenPlace) (v : ℤ) → IsLeastValue places old → v ≡ int_min old p.value → IsLeastValue (places ++ p ∷ []) v
less_value places old p v least is =
    let below = subst (λ (x : ℤ). x ≤ℤ old) (sym is) (min_first old p.value) in
    let last = subst (λ (x : ℤ). x ≤ℤ p.value) (sym is) (min_last old p.value) in
    record {
      values = All-push (λ (q : OpenPlace). v ≤ℤ q.value) places p
          (All-weaker (λ (q : OpenPlace). old ≤ℤ q.value) (λ (q : OpenPlace). v ≤ℤ q.value) (λ q h. most_through v old q.value below h) places least.values) last;
      reached = reached_more places old p v least.reached is (min_either old p.value);
    }

pub next_value : (places : List OpenPlace) (least : Option ℤ) (p : OpenPlace) (v : ℤ) → MatchOption least (places ≡ []) (IsLeastValue places)
    → MatchOption least (v ≡ p.value) (λ old. v ≡ int_min old p.value) → IsLeastValue (places ++ p ∷ []) v
next_value places None p v none is = subst (λ (ps : List OpenPlace). IsLeastValue (ps ++ p ∷ []) v) (sym none) (first_value p v is)
next_value places (Some old) p v least is = less_value places old p v least is

-- ---- the bound
pub bound_without : (s : Search) (v : ℤ) → IsLeastValue (opens_in s) v → s.best ≡ None → IsBoundOf s v
bound_without s v least none = record {
  values = least.values;
  cost = λ some. absurd (some none);
  reached = inl least.reached;
}

bound_reached : (s : Search) (least v : ℤ) → IsLeastValue (opens_in s) least → s.best ≢ None → v ≡ int_min least s.z
    → (int_min least s.z ≡ least) ⊎ (int_min least s.z ≡ s.z) → HoldsForSome (λ (p : OpenPlace). v ≡ p.value) (opens_in s) ⊎ ((s.best ≢ None) × (v ≡ s.z))
bound_reached s least v is some min (inl e) = inl (subst (λ (x : ℤ). HoldsForSome (λ (p : OpenPlace). x ≡ p.value) (opens_in s)) (sym (min ∙ e)) is.reached)
bound_reached s least v is some min (inr e) = inr (some, min ∙ e)

pub bound_with : (s : Search) (least v : ℤ) → IsLeastValue (opens_in s) least → s.best ≢ None → v ≡ int_min least s.z → IsBoundOf s v
bound_with s least v is some min =
    let below = subst (λ (x : ℤ). x ≤ℤ least) (sym min) (min_first least s.z) in
    record {
      values = All-weaker (λ (p : OpenPlace). least ≤ℤ p.value) (λ (p : OpenPlace). v ≤ℤ p.value) (λ p h. most_through v least p.value below h) (opens_in s) is.values;
      cost = λ any. subst (λ (x : ℤ). x ≤ℤ s.z) (sym min) (min_last least s.z);
      reached = bound_reached s least v is some min (min_either least s.z);
    }

-- ---- one slot more is read
pub value_turn : (slots : List (Slot OpenPlace MadeNode)) (k : ℕ) (x : Slot OpenPlace MadeNode) (p : OpenPlace) (least new : Option ℤ) (value v u : ℤ)
    → k < length slots → x ≡ get_or slots k x → x ≡ Open p → value ≡ p.value
    → MatchOption least (opens (take k slots) ≡ []) (IsLeastValue (opens (take k slots)))
    → MatchOption least (v ≡ value) (λ old. v ≡ int_min old value) → u ≡ v → new ≡ Some u
    → MatchOption new (opens (take (k + 1) slots) ≡ []) (IsLeastValue (opens (take (k + 1) slots)))
value_turn slots k x p least new value v u h same opened is before lesser moved made =
    let by = subst (λ (y : ℤ). MatchOption least (v ≡ y) (λ old. v ≡ int_min old y)) is lesser in
    let next = next_value (opens (take k slots)) least p v before by in
    let more : opens (take (k + 1) slots) ≡ opens (take k slots) ++ p ∷ [] =
    ap (λ (s : List (Slot OpenPlace MadeNode)). opens s) (take_more slots k x h ∙ ap (λ (y : Slot OpenPlace MadeNode). take k slots ++ y ∷ []) (sym same ∙ opened))
    ∙ opens_append (take k slots) (Open p ∷ []) in
    let read = subst (λ (ps : List OpenPlace). IsLeastValue ps v) (sym more) next in
    subst (λ (o : Option ℤ). MatchOption o (opens (take (k + 1) slots) ≡ []) (IsLeastValue (opens (take (k + 1) slots)))) (sym (made ∙ ap (λ (y : ℤ). Some y) moved)) read

pub value_stays : (slots : List (Slot OpenPlace MadeNode)) (k : ℕ) (x : Slot OpenPlace MadeNode) (n : MadeNode) (least new : Option ℤ)
    → k < length slots → x ≡ get_or slots k x → x ≡ Made n
    → MatchOption least (opens (take k slots) ≡ []) (IsLeastValue (opens (take k slots))) → new ≡ least
    → MatchOption new (opens (take (k + 1) slots) ≡ []) (IsLeastValue (opens (take (k + 1) slots)))
value_stays slots k x n least new h same made before stays =
    let read = subst (λ (ps : List OpenPlace). MatchOption least (ps ≡ []) (IsLeastValue ps)) (sym (opens_at_made slots k x n h same made)) before in
    subst (λ (o : Option ℤ). MatchOption o (opens (take (k + 1) slots) ≡ []) (IsLeastValue (opens (take (k + 1) slots)))) (sym stays) read
